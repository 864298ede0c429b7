use Rattle.std.proofs.Common.{◌∙◌, sym, refl}
use Rattle.rdl_tree.specs.declared.item.Inst.{Inst}
use Rattle.rdl_uses.specs.Given.{use_by}
use Rattle.rdl_uses.specs.declared.instances.Visited.{Visited}
use Rattle.rdl_uses.proofs.Applying.{applied, type-of, uses_put}
use Rattle.rdl_uses.proofs.uses.judge_uses.Goals as goal

pub returns-clause-earlier : goal.returns-clause-earlier
returns-clause-earlier c = λ t us h old.
    let d = c.args.def.now in
    let xs = c.args.insts.now.args.now in
    let v = c.args.visible.now in
    let ns = c.args.inside.now in
    let w : Visited = record { def = c.args.def; alias = c.args.alias; given = c.in_ok-values.values.given } in
    let ty = type-of d xs c.args.place c.args.parent v ns w t h c.args.failures.now c.judge_values.new.failures refl (λ i. c.in_ok-values.ensures.noted (use_by t i) t.closure (applied d xs c.args.place c.args.parent v ns w t h i)) in
    c.in_ok-given.ensures.earlier t us ty old

pub returns-clause-noted : goal.returns-clause-noted
returns-clause-noted c = λ t us h old.
    let d = c.args.def.now in
    let xs = c.args.insts.now.args.now in
    let v = c.args.visible.now in
    let ns = c.args.inside.now in
    let w : Visited = record { def = c.args.def; alias = c.args.alias; given = c.in_ok-values.values.given } in
    let noted = λ (i : Inst). c.in_ok-values.ensures.noted (use_by t i) t.closure (applied d xs c.args.place c.args.parent v ns w t h i) in
    let ty = type-of d xs c.args.place c.args.parent v ns w t h c.args.failures.now c.judge_values.new.failures refl noted in
    uses_put t us c.args.insts.now.list.now c.args.failures.now c.judge_values.new.failures c.judge_instances.new.failures (sym c.is_empty.ensures ∙ c.if-is_empty.false) (λ i. (noted i).put) (c.in_ok-given.ensures.noted t us ty old)

pub returns-clause-given : goal.returns-clause-given
returns-clause-given c = λ t us h old.
    let d = c.args.def.now in
    let xs = c.args.insts.now.args.now in
    let v = c.args.visible.now in
    let ns = c.args.inside.now in
    let w : Visited = record { def = c.args.def; alias = c.args.alias; given = c.in_ok-values.values.given } in
    let ty = type-of d xs c.args.place c.args.parent v ns w t h c.args.failures.now c.judge_values.new.failures refl (λ i. c.in_ok-values.ensures.noted (use_by t i) t.closure (applied d xs c.args.place c.args.parent v ns w t h i)) in
    c.in_ok-given.ensures.given t us ty old
