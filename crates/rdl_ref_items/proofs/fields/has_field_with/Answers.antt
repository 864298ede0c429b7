use Rattle.std.proofs.Common.{◌<◌, sym, subst}
use Rattle.rdl_tree.specs.declared.node.Node.{out-Node}
use Rattle.rdl_layers.specs.Fields as fields
use Rattle.rdl_ref_items.proofs.Bodies.{none-is, none-so-far, one-is}
use Rattle.rdl_ref_items.proofs.fields.has_field_with.Goals as goal

pub is_field_with-requires : goal.is_field_with-requires
is_field_with-requires c = subst (λ x. (out-Node x).id < c.args.props.now.count) (sym c.node-item.is) (c.requires c.loop-node.node-index c.node-item.result c.loop-node-test.true)

pub returns-then-is_field_with : goal.returns-then-is_field_with
returns-then-is_field_with c = λ n up h. one-is c.args.props.now up n c.args.nodes.now h (fields.has_one_of c.args.list.now) c.loop-node.node-index c.node-item.result c.loop-node-test.true c.node-item.is c.is_field_with.result c.is_field_with.ensures c.if-is_field_with.true

pub loop-node-preserved : goal.loop-node-preserved
loop-node-preserved c = λ n up h. none-so-far c.args.props.now up n c.args.nodes.now h (fields.has_one_of c.args.list.now) c.loop-node.node-index c.node-item.result c.loop-node-test.true c.node-item.is c.is_field_with.result c.is_field_with.ensures c.if-is_field_with.false (c.loop-node.invariant n up h)

pub returns : goal.returns
returns c = λ n up h. none-is c.args.props.now up n c.args.nodes.now h (fields.has_one_of c.args.list.now) c.loop-node.node-index c.loop-node-test.false (c.loop-node.invariant n up h)
