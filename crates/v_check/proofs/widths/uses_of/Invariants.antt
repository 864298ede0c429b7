use Rattle.std.proofs.Common.{◌≡◌, map, take}
use Rattle.v_check.specs.Found.{Finds, StandsBefore}
use Rattle.v_check.specs.Nets.{nets_seen, number_of, width_in}
use Rattle.v_check.specs.Sizes.{IsMisfit, stmt_places}
use Rattle.v_check.specs.Uses.{stmt_reads}
use Rattle.v_check.proofs.widths.uses_of.Given as goal

abbrev pub invariant-loop-stmt : goal.invariant-loop-stmt
invariant-loop-stmt l = record {
  targets : l.targets.items ≡ map (λ s. number_of l.nets s.to) (take l.stmt-index l.stmts);
  reads : l.reads ≡ map (stmt_reads (number_of l.nets)) (take l.stmt-index l.stmts);
  found : Finds (StandsBefore (IsMisfit (width_in (nets_seen l.nets)) l.stmts) (stmt_places l.stmts) l.stmt-index) l.found;
}
