use Rattle.rdl_open_bodies.proofs.Started.{StartsBehind}
use Rattle.rdl_open_bodies.proofs.elements.starts_of.Given as goal

abbrev pub invariant-loop-child : goal.invariant-loop-child
invariant-loop-child l = StartsBehind l.round l.most l.children l.child-index l.starts.items
