use Rattle.std.proofs.Common.{map}
use Rattle.rb_model.specs.Ports.{reg_outlets}
use Rattle.block_plan.specs.Outlets.{outlet_seen}
use Rattle.block_plan.proofs.Numbered.{numbered_more}
use Rattle.block_plan.proofs.outlets.push_regs.Goals as goal

pub loop-index-preserved : goal.loop-index-preserved
loop-index-preserved c =
    numbered_more reg_outlets c.args.regs.now c.loop-index.index c.in_ok-number_of.field-0 c.index-regs-index.result (map outlet_seen c.args.out.now.items) (map outlet_seen c.loop-index.out.items) (map outlet_seen c.push_reg.new.out.items) c.loop-index-test.true c.index-regs-index.is c.in_ok-number_of.ensures.is
    c.loop-index.invariant c.in_ok-push_reg.ensures
