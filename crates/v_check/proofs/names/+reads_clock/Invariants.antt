use Rattle.std.proofs.Common.{◌≡◌, false, take}
use Rattle.v_design.specs.Expr.{nets_of_each}
use Rattle.v_design.specs.Lexemes.{among}
use Rattle.v_design.specs.WellFormed.{clock}
use Rattle.v_check.proofs.Exprs.{listed}
use Rattle.v_check.proofs.names.+reads_clock.Given as goal

abbrev pub invariant-loop-part : goal.invariant-loop-part
invariant-loop-part l = among (nets_of_each (listed (take l.part-index l.part-items))) clock ≡ false
