use Rattle.std.proofs.Common.{◌∙◌}
use Rattle.block_plan.proofs.Needing.{member_added, members_added}
use Rattle.block_plan.proofs.adding.want_members.Goals as goal

pub loop-number-preserved : goal.loop-number-preserved
loop-number-preserved c = member_added c.args.block.now c.args.halt c.members_in-number-items.result.now c.loop-number.number-index c.args.wanted.now c.loop-number.wanted c.want_numbered.new.wanted c.loop-number-test.true c.loop-number.invariant c.want_numbered.ensures

pub returns : goal.returns
returns c = members_added c.args.block.now c.args.halt c.args.reg c.loop-number.number-index c.members_in-number-items.result.now c.args.wanted.now c.loop-number.wanted c.loop-number-test.false (c.members_in-number-items.ensures ∙ c.requires.planned.members c.args.reg) c.loop-number.invariant
