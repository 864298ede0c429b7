use Rattle.std.proofs.Common.{◌≡◌, ◌∙◌, ◌<◌, true, Some, slice_get, sym, ap, subst, arith}
use Rattle.rdl_tree.specs.declared.node.Elab.{Elab}
use Rattle.rdl_values.specs.Elaborated.{nodes_of}
use Rattle.rdl_values.specs.Instances.{Instance, kind_of}
use Rattle.rdl_values.specs.Parts.{is_unit}
use Rattle.rdl_values.specs.Lineages.{lineages_of}
use Rattle.rdl_failures.specs.Noted.{with_all}
use Rattle.rdl_layers.specs.Settings.{setting}
use Rattle.rdl_refs.specs.Items.{target}
use Rattle.rdl_rules.specs.ReferenceRules.{bad_item}
use Rattle.rdl_ref_items.specs.Named.{Names}
use Rattle.rdl_reset_rules.specs.Judged.{TellsPlace}
use Rattle.rdl_reset_rules.proofs.Items.{names-none, names-one, number-below}
use Rattle.rdl_reset_rules.proofs.Turns.{named-fails, none-fails}
use Rattle.rdl_reset_rules.proofs.references.judge_prop.Goals as goal

pub named_item-requires : goal.named_item-requires
named_item-requires c = subst (λ m. c.args.node < m.count) (sym c.requires.refs) (number-below c.args.props.now c.requires.known.clean c.args.node c.requires.node.0 c.requires.node.1)

pub place_of-requires : goal.place_of-requires
place_of-requires c = number-below c.args.props.now c.requires.known.clean c.args.node c.requires.node.0 c.requires.node.1

pub bounds-facts-node : goal.bounds-facts-node
bounds-facts-node c = let low = number-below c.args.props.now c.requires.known.clean c.args.node c.requires.node.0 c.requires.node.1 in let all = c.requires.known.facts_.all_nodes in omega (arith, low, all)

pub judge_item-requires-clause-item : goal.judge_item-requires-clause-item
judge_item-requires-clause-item c =
    let e = c.args.props.now in
    let n = c.requires.node.0 in
    let names = subst (λ (m : Elab). (n : Instance) → slice_get (nodes_of m) c.args.node ≡ Some n → Names m (target (lineages_of m) (setting n c.args.prop)) c.named_item.result) c.requires.refs c.named_item.ensures in
    let one = names-one e (target (lineages_of e) (setting n c.args.prop)) c.in-Some.item (subst (Names e (target (lineages_of e) (setting n c.args.prop))) c.in-Some.is (names n c.requires.node.1)) in
    (one.0, one.2)

pub returns : goal.returns
returns c = λ n at.
    let e = c.args.props.now in
    let names = subst (λ (m : Elab). (n : Instance) → slice_get (nodes_of m) c.args.node ≡ Some n → Names m (target (lineages_of m) (setting n c.args.prop)) c.named_item.result) c.requires.refs c.named_item.ensures in
    let one = names-one e (target (lineages_of e) (setting n c.args.prop)) c.in-Some.item (subst (Names e (target (lineages_of e) (setting n c.args.prop))) c.in-Some.is (names n at)) in
    let same : c.requires.node.0 ≡ n = (let q : Some c.requires.node.0 ≡ Some n = sym c.requires.node.1 ∙ at in cc q) in
    let unit = subst (λ (m : Instance). is_unit (kind_of m) ≡ true) same c.requires.node.2 in
    let width = (c.requires.known.facts_.of_each c.args.node n at unit).width_ in
    let place = subst (TellsPlace (setting n c.args.prop)) c.in-Some-place_of.is (c.place_of.ensures n at) in
    c.in_ok-judge_item.ensures one.0 one.2 ∙ ap (λ fs. with_all fs c.args.failures.now) (named-fails (lineages_of e) n c.args.prop (setting n c.args.prop) one.0 _ c.in-Some-place_of.place place width one.1)
