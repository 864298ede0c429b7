use Rattle.std.proofs.Common.{take}
use Rattle.std.specs.List.{AllByRecursion}
use Rattle.rdl_bodies.specs.Alike.{IsSteady}
use Rattle.rdl_bodies.proofs.bodies.Bodies.are_steady.Given as goal

abbrev pub invariant-loop-number : goal.invariant-loop-number
invariant-loop-number l = AllByRecursion (IsSteady l.self) (take l.number-index l.numbers)
