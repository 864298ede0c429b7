use Rattle.std.proofs.Common.{◌≡◌, ◌≤◌, ◌-◌, length}
use Rattle.drive_lang.specs.Left.{left_of, vectors_at}
use Rattle.drive_lang.proofs.position.pass.Given as goal

abbrev pub invariant-loop-line : goal.invariant-loop-line
invariant-loop-line l = record { left : left_of l.lines l.now l.held ≡ left_of l.lines l.initial.now l.initial.held; within : l.now.over ≤ vectors_at l.lines l.now.line }

abbrev pub decreases-loop-line : goal.decreases-loop-line
decreases-loop-line l = length l.lines - l.now.line
