use Rattle.std.proofs.Common.{map, take}
use Rattle.rdl_values.specs.Kept.{AreDefaults}
use Rattle.rdl_values.specs.Over.{IsOver}
use Rattle.rdl_values.specs.Overlaid.{Plain}
use Rattle.rdl_values.specs.Seen.{bound_of}
use Rattle.rdl_values.proofs.parameters.Parameters.of.Given as goal

abbrev pub invariant-loop-bound : goal.invariant-loop-bound
invariant-loop-bound l = (xs : Plain) → AreDefaults l.fn.defaults.value xs → IsOver l.parameters xs 0 (map bound_of (take l.bound-index l.touched))
