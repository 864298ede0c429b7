use Rattle.std.proofs.Common.{◌<◌, length, sym, subst}
use Rattle.rdl_tree.specs.declared.node.Node.{out-Node}
use Rattle.rdl_meaning_rules.proofs.Bodies.{none-is, none-so-far, one-is}
use Rattle.rdl_meaning_rules.proofs.filled.is_one_filled.Goals as goal

pub bounds-filled-node : goal.bounds-filled-node
bounds-filled-node c = subst (λ x. (out-Node x).id < length c.args.filled.now) (sym c.node-item.is) (c.requires c.loop-node.node-index c.node-item.result c.loop-node-test.true)

pub returns-then-filled-node : goal.returns-then-filled-node
returns-then-filled-node c = λ all up ns p h known. one-is all up ns p c.args.nodes.now h c.args.filled.now known c.loop-node.node-index c.node-item.result c.loop-node-test.true c.node-item.is c.if-filled-node.true

pub loop-node-preserved : goal.loop-node-preserved
loop-node-preserved c = λ all up ns p h known. none-so-far all up ns p c.args.nodes.now h c.args.filled.now known c.loop-node.node-index c.node-item.result c.loop-node-test.true c.node-item.is c.if-filled-node.false (c.loop-node.invariant all up ns p h known)

pub returns : goal.returns
returns c = λ all up ns p h known. none-is all up ns p c.args.nodes.now h c.args.filled.now known c.loop-node.node-index c.loop-node-test.false (c.loop-node.invariant all up ns p h known)
