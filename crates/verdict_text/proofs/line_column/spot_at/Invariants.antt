use Rattle.std.proofs.Common.{◌-◌, ◌≤◌}
use Rattle.verdict_text.specs.LineColumns.{IsLineColumn}
use Rattle.verdict_text.proofs.line_column.spot_at.Given as goal

abbrev pub invariant-loop-spot : goal.invariant-loop-spot
invariant-loop-spot l = record { spot : IsLineColumn l.source l.spot; before : l.spot.at ≤ l.place }

abbrev pub decreases-loop-spot : goal.decreases-loop-spot
decreases-loop-spot l = l.place - l.spot.at
