use Rattle.rdl_tree.specs.declared.node.Node.{out-Node}
use Rattle.rdl_bind.proofs.Items.{node-counted}
use Rattle.rdl_bind.proofs.registers.add_if.Goals as goal

pub has_one_of-requires : goal.has_one_of-requires
has_one_of-requires c = node-counted c.args.known.props.now c.requires.known.clean (out-Node c.args.node.now).id c.requires.node.0 c.requires.node.1
