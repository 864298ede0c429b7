use Rattle.std.proofs.Common.{ap, ◌∙◌, arith}
use Rattle.sim_lanes.specs.Due.{due_at}
use Rattle.sim_lanes.proofs.moves.change.Goals as goal

pub returns-then-values-place-clause-due : goal.returns-then-values-place-clause-due
returns-then-values-place-clause-due c = record {
  kept = c.mark_all.ensures.kept;
  moved = λ k room reads none. let among = c.readers_of.ensures.all k reads in
      absurd (c.mark_all.ensures.marked among.index among.below (omega (arith, among.is, room)) (ap (due_at c.mark_all.new.due) among.is ∙ none));
}
