use Rattle.rdl_fields.specs.Touched.{AreTouches}
use Rattle.rdl_fields.proofs.list.own_touches.Given as goal

abbrev pub invariant-loop-node : goal.invariant-loop-node
invariant-loop-node l = AreTouches l.props l.node l.list.items
