use Rattle.std.proofs.Common.{subst}
use Rattle.std.proofs.lemmas.List.{take_all}
use Rattle.rdl_dynamic.specs.Pushed.{PushesAll}
use Rattle.rdl_dynamic.proofs.Behind.{no-push, push-step}
use Rattle.rdl_dynamic.proofs.pushing.push_all.Goals as goal

pub loop-node-init : goal.loop-node-init
loop-node-init c = no-push c.args.given c.args.body c.args.entries.now.items

pub loop-node-preserved : goal.loop-node-preserved
loop-node-preserved c = push-step c.args.nodes.now c.loop-node.node-index 0 c.args.given c.args.body c.args.entries.now.items c.loop-node.entries.items c.push_at.new.entries.items c.loop-node-test.true c.loop-node.invariant c.in_ok-push_at.ensures

pub returns : goal.returns
returns c = subst (λ ks. PushesAll ks c.args.given c.args.body c.args.entries.now.items c.loop-node.entries.items) (take_all c.loop-node.node-index c.args.nodes.now c.loop-node-test.false) c.loop-node.invariant
