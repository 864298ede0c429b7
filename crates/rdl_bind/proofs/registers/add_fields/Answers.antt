use Rattle.std.proofs.Common.{◌∙◌, ◌&&◌, [], cond, List, refl, arith}
use Rattle.rdl_tree.specs.declared.item.Kind.TheVariants as kinds
use Rattle.rdl_values.specs.Instances.{Instance, children}
use Rattle.rdl_values.specs.Lineages.{lineages_of}
use Rattle.rdl_layers.specs.Fields.{has_one_of, is_a}
use Rattle.rdl_refs.specs.Follows.{masked_items}
use Rattle.rdl_refs.specs.Items.{Item}
use Rattle.rdl_bind.proofs.Fielded.{all-inside, fields-alone, inside-here, one-inside}
use Rattle.rdl_bind.proofs.Items.{no-numbers, these-numbers}
use Rattle.rdl_bind.proofs.registers.add_fields.Goals as goal

pub loop-node-init : goal.loop-node-init
loop-node-init c = λ i up inside. no-numbers c.args.known.props.now c.args.list.now.items [] refl

pub add_if-requires-clause-node : goal.add_if-requires-clause-node
add_if-requires-clause-node c =
    let r = c.requires.nodes in
    let m = inside-here c.args.known.props.now r.1 r.0 c.args.nodes.now r.2 c.loop-node.node-index c.node-item.result c.loop-node-test.true c.node-item.is in
    (m.0, m.2, m.3)

pub loop-node-preserved : goal.loop-node-preserved
loop-node-preserved c = λ i up inside.
    let e = c.args.known.props.now in
    let g : Instance → List Item = λ x. cond (is_a kinds.Field x && has_one_of c.args.list_of.now x) (masked_items (lineages_of e) c.args.masks.now i x) [] in
    let m = inside-here e up i.node c.args.nodes.now inside c.loop-node.node-index c.node-item.result c.loop-node-test.true c.node-item.is in
    one-inside e up i.node c.args.nodes.now inside g c.loop-node.node-index m.0 m.1 c.args.list.now.items c.loop-node.list.items c.add_if.new.list.items (c.loop-node.invariant i up inside) (c.in_ok-add_if.ensures i m.0 m.2)

pub returns : goal.returns
returns c = λ i up inside.
    let e = c.args.known.props.now in
    let g : Instance → List Item = λ x. cond (is_a kinds.Field x && has_one_of c.args.list_of.now x) (masked_items (lineages_of e) c.args.masks.now i x) [] in
    these-numbers e _ _ c.args.list.now.items c.loop-node.list.items (all-inside e up i.node c.args.nodes.now inside g c.loop-node.node-index (omega (arith, c.loop-node-test.false)) ∙ fields-alone (is_a kinds.Field) (has_one_of c.args.list_of.now) (masked_items (lineages_of e) c.args.masks.now i) (children i.node)) (c.loop-node.invariant i up inside)
