use Rattle.v_check.specs.Found.{Finds, StandsBefore}
use Rattle.v_check.specs.Loops.{IsUnranked}
use Rattle.v_check.specs.Sizes.{stmt_places}
use Rattle.v_check.proofs.loops.unranked.Given as goal

abbrev pub invariant-loop-index : goal.invariant-loop-index
invariant-loop-index l = Finds (StandsBefore (IsUnranked l.ranks) (stmt_places l.stmts) l.index) l.found
