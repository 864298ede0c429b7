use Rattle.std.proofs.Common.{◌≡◌, ◌∙◌, None, Some, ap, option_map, subst, sym}
use Rattle.rdl_values.specs.Bodies.{around}
use Rattle.rdl_bodies.specs.Sited.{HaveNames}
use Rattle.rdl_bodies.specs.declared.bodies.Body.{Body}
use Rattle.rdl_encodings.specs.Enums.{enum_found}
use Rattle.rdl_encodings.proofs.meant.meant_from.Goals as goal

pub returns-in_default : goal.returns-in_default
returns-in_default c = λ e round named are.
    let shown = c.body_round.ensures e c.args.name.now round named in
    let both : Some shown.0 ≡ None = sym shown.1 ∙ c.in_default.is in
    cc

pub returns-in_default-find : goal.returns-in_default-find
returns-in_default-find c = λ e round named are.
    let t = c.args.tree.now in
    let shown = c.body_round.ensures e c.args.name.now round named in
    let both : Some shown.0 ≡ Some c.in-Some.body = sym shown.1 ∙ c.in-Some.is in
    let same : shown.0 ≡ c.in-Some.body = cc in
    let have = subst (λ (y : Body). HaveNames t.bodies.list.items y.numbers.now (around round)) same shown.2 in
    c.find.ensures t.bodies (around round) are have ∙ ap (option_map (enum_found c.args.enums.now c.args.name.now.text.now)) c.in_default-find.is

pub returns : goal.returns
returns c = λ e round named are.
    let t = c.args.tree.now in
    let shown = c.body_round.ensures e c.args.name.now round named in
    let both : Some shown.0 ≡ Some c.in-Some.body = sym shown.1 ∙ c.in-Some.is in
    let same : shown.0 ≡ c.in-Some.body = cc in
    let have = subst (λ (y : Body). HaveNames t.bodies.list.items y.numbers.now (around round)) same shown.2 in
    c.find.ensures t.bodies (around round) are have ∙ ap (option_map (enum_found c.args.enums.now c.args.name.now.text.now)) c.in-Some-find.is
