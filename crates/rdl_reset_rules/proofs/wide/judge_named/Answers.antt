use Rattle.std.proofs.Common.{◌≡◌, ◌∙◌, ◌<◌, ◌==◌, not, flat_map, append-nil, Some, slice_get, sym, ap, subst, arith}
use Rattle.rdl_base.specs.declared.rule.Rule.TheVariants as rule
use Rattle.rdl_tree.specs.declared.node.Elab.{Elab}
use Rattle.rdl_props.specs.declared.prop.Prop.TheVariants as prop
use Rattle.rdl_values.specs.Elaborated.{nodes_of}
use Rattle.rdl_values.specs.Faults.{at_, when}
use Rattle.rdl_values.specs.Instances.{Instance}
use Rattle.rdl_values.specs.Lineages.{lineages_of}
use Rattle.rdl_failures.specs.Noted.{with_all}
use Rattle.rdl_layers.specs.Phase4.{width_of}
use Rattle.rdl_layers.specs.Settings.{setting}
use Rattle.rdl_refs.specs.Items.{Item, target}
use Rattle.rdl_rules.specs.FieldRules.{at_node}
use Rattle.rdl_sizes.proofs.Facts.{rows-many}
use Rattle.rdl_ref_items.specs.Named.{Names}
use Rattle.rdl_ref_items.proofs.Items.{item-below, item-counted, item-node, known-row}
use Rattle.rdl_reset_rules.proofs.Items.{names-none, names-one, number-below}
use Rattle.rdl_reset_rules.proofs.Bound.{names-signal}
use Rattle.rdl_reset_rules.proofs.Said.{signal-unit}
use Rattle.rdl_reset_rules.proofs.wide.judge_named.Goals as goal

pub named_item-requires : goal.named_item-requires
named_item-requires c = subst (λ m. c.args.node < m.count) (sym c.requires.refs) (number-below c.args.props.now c.requires.clean c.args.node c.requires.node.0 c.requires.node.1)

pub returns-in_default : goal.returns-in_default
returns-in_default c = λ n at.
    let e = c.args.props.now in
    let names = subst (λ (m : Elab). (n : Instance) → slice_get (nodes_of m) c.args.node ≡ Some n → Names m (target (lineages_of m) (setting n prop.Resetsignal)) c.named_item.result) c.requires.refs c.named_item.ensures in
    let none = names-none e (target (lineages_of e) (setting n prop.Resetsignal)) c.named_item.result c.in_default.not-Some (names n at) in
    ap (λ is. with_all (flat_map (λ (i : Item). at_node rule.R6 i.node (not (width_of i.node == 1))) is) c.args.failures.now) (sym none)

pub bounds-rows-item : goal.bounds-rows-item
bounds-rows-item c =
    let e = c.args.props.now in
    let n = c.requires.node.0 in
    let at = c.requires.node.1 in
    let names = subst (λ (m : Elab). (n : Instance) → slice_get (nodes_of m) c.args.node ≡ Some n → Names m (target (lineages_of m) (setting n prop.Resetsignal)) c.named_item.result) c.requires.refs c.named_item.ensures in
    let one = names-one e (target (lineages_of e) (setting n prop.Resetsignal)) c.in-Some.item (subst (Names e (target (lineages_of e) (setting n prop.Resetsignal))) c.in-Some.is (names n at)) in
    let low = item-below e one.0 c.in-Some.item one.2 in
    let many = rows-many e c.args.rows.now c.requires.rows in
    omega (arith, low, many)

pub bounds-facts-item : goal.bounds-facts-item
bounds-facts-item c =
    let e = c.args.props.now in
    let n = c.requires.node.0 in
    let at = c.requires.node.1 in
    let names = subst (λ (m : Elab). (n : Instance) → slice_get (nodes_of m) c.args.node ≡ Some n → Names m (target (lineages_of m) (setting n prop.Resetsignal)) c.named_item.result) c.requires.refs c.named_item.ensures in
    let one = names-one e (target (lineages_of e) (setting n prop.Resetsignal)) c.in-Some.item (subst (Names e (target (lineages_of e) (setting n prop.Resetsignal))) c.in-Some.is (names n at)) in
    let low = item-counted e c.requires.clean one.0 c.in-Some.item one.2 in
    let all = c.requires.facts.all_nodes in
    omega (arith, low, all)

pub returns : goal.returns
returns c = λ n at.
    let e = c.args.props.now in
    let names = subst (λ (m : Elab). (n : Instance) → slice_get (nodes_of m) c.args.node ≡ Some n → Names m (target (lineages_of m) (setting n prop.Resetsignal)) c.named_item.result) c.requires.refs c.named_item.ensures in
    let one = names-one e (target (lineages_of e) (setting n prop.Resetsignal)) c.in-Some.item (subst (Names e (target (lineages_of e) (setting n prop.Resetsignal))) c.in-Some.is (names n at)) in
    let i = one.0 in
    let row = known-row e c.args.rows.now c.requires.rows i c.in-Some.item one.2 c.index-rows-item.result c.index-rows-item.is in
    let signal = names-signal e c.requires.bound c.args.node n at i one.1 in
    let width = (c.requires.facts.of_each c.in-Some.item.node i.node (item-node e i c.in-Some.item one.2) (signal-unit i.node signal)).width_ in
    let f = λ (j : Item). at_node rule.R6 j.node (not (width_of j.node == 1)) in
    c.in_ok-note.ensures.put
    ∙ ((λ j. with_all (when (not (width j == 1)) (at_ rule.R6 (row.says.place j))) c.args.failures.now)
    ∙ (ap (λ fs. with_all fs c.args.failures.now) (sym (append-nil (f i))) ∙ ap (λ is. with_all (flat_map f is) c.args.failures.now) (sym one.1)))
