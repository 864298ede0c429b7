use Rattle.std.proofs.Common.{take}
use Rattle.rdl_dynamic.specs.Pushed.{PushesAll}
use Rattle.rdl_dynamic.proofs.pushing.push_all.Given as goal

abbrev pub invariant-loop-node : goal.invariant-loop-node
invariant-loop-node l = PushesAll (take l.node-index l.nodes) l.given l.body l.initial.entries.items l.entries.items
