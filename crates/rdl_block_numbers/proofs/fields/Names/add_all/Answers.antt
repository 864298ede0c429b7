use Rattle.rdl_sizes.proofs.Turns.{read-at}
use Rattle.rdl_block_numbers.proofs.Naming.{all-added, none-added, one-added}
use Rattle.rdl_values.specs.Elaborated.{nodes_of}
use Rattle.rdl_block_numbers.proofs.fields.Names.add_all.Goals as goal

pub loop-node-init : goal.loop-node-init
loop-node-init c = λ e up n clean own inside k. none-added (nodes_of e) c.args.body n c.args.self.now k

pub loop-node-preserved : goal.loop-node-preserved
loop-node-preserved c = λ e up n clean own inside k.
    one-added e clean c.args.own.now own c.args.body up n c.args.nodes.now inside c.loop-node.node-index c.node-item.result (read-at c.args.nodes.now c.loop-node.node-index c.node-item.result c.loop-node-test.true c.node-item.is) c.args.self.now c.loop-node.self c.add.new.self k
    (c.loop-node.invariant e up n clean own inside k) (c.in_ok-add.ensures k)

pub returns : goal.returns
returns c = λ e up n clean own inside k.
    all-added e c.args.body up n c.args.nodes.now inside c.loop-node.node-index c.loop-node-test.false c.args.self.now c.loop-node.self k (c.loop-node.invariant e up n clean own inside k)
