use Rattle.block_plan.proofs.Needing.{both_added}
use Rattle.block_plan.proofs.adding.want_count.Goals as goal

pub returns-in-Some : goal.returns-in-Some
returns-in-Some c = rw c.in-Some.is (both_added c.args.wanted.now c.want_part.new.wanted c.want_part-in-Some.new.wanted _ _ c.want_part.ensures c.want_part-in-Some.ensures)
