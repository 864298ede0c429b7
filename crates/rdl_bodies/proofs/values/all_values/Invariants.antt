use Rattle.std.proofs.Common.{◌≡◌, map, take}
use Rattle.rdl_values.specs.Overlaid.{overlaid, plain_of}
use Rattle.rdl_values.specs.Seen.{bound_of}
use Rattle.rdl_bodies.proofs.values.all_values.Given as goal

abbrev pub invariant-loop-place : goal.invariant-loop-place
invariant-loop-place l = map bound_of l.values.items ≡ overlaid (take l.place (plain_of l.params)) (map bound_of l.touched)
