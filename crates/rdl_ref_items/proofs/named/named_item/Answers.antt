use Rattle.std.proofs.Common.{◌≡◌, ◌∙◌, Some, sym, subst}
use Rattle.rdl_values.specs.Elaborated.{top_name}
use Rattle.rdl_values.specs.Instances.{Instance}
use Rattle.rdl_values.specs.Lineages.{lineages_of}
use Rattle.rdl_layers.specs.Settings.{setting}
use Rattle.rdl_refs.specs.Answers.{IsNumberOf}
use Rattle.rdl_refs.specs.Items.{target}
use Rattle.rdl_refs.specs.declared.item.What.TheVariants as what
use Rattle.rdl_ref_items.specs.Named.{Names}
use Rattle.rdl_ref_items.proofs.NamedItems.{named-by}
use Rattle.rdl_ref_items.proofs.named.named_item.Goals as goal

pub bounds-items-number : goal.bounds-items-number
bounds-items-number c =
    let e = c.args.refs.now in
    let t = c.target.ensures in
    let is = subst (IsNumberOf (lineages_of e) (target (lineages_of e) (setting t.0 c.args.prop))) c.in_ok-number.was t.2 in
    (named-by e (setting t.0 c.args.prop) c.items.result.now c.items.ensures (c.one_target.ensures.item (Some (top_name e)) e.source.now (setting t.0 c.args.prop)) c.in_ok-number.number is (record { node = 0; what = what.Value })).0

pub returns : goal.returns
returns c = λ n at.
    let e = c.args.refs.now in
    let t = c.target.ensures in
    let same : t.0 ≡ n = (let p : Some t.0 ≡ Some n = sym t.1 ∙ at in cc p) in
    let is : IsNumberOf (lineages_of e) (target (lineages_of e) (setting n c.args.prop)) (Some c.in_ok-number.number) = subst (λ (m : Instance). IsNumberOf (lineages_of e) (target (lineages_of e) (setting m c.args.prop)) (Some c.in_ok-number.number)) same (subst (IsNumberOf (lineages_of e) (target (lineages_of e) (setting t.0 c.args.prop))) c.in_ok-number.was t.2) in
    (named-by e (setting n c.args.prop) c.items.result.now c.items.ensures (c.one_target.ensures.item (Some (top_name e)) e.source.now (setting n c.args.prop)) c.in_ok-number.number is _).1
