use Rattle.std.proofs.Common.{◌≡◌, ℕ, List, map, take}
use Rattle.v_check.specs.Drivers.{driver_of}
use Rattle.v_check.specs.Loops.{all_needs}
use Rattle.v_check.specs.Uses.{stmt_reads}
use Rattle.v_check.proofs.loops.needs_of_each.Given as goal

abbrev pub invariant-loop-index : goal.invariant-loop-index
invariant-loop-index l = (number : List ℕ → ℕ) → l.reads ≡ map (stmt_reads number) l.stmts
    → l.needs ≡ all_needs (λ n. driver_of l.drivers (number n)) (take l.index l.stmts)
