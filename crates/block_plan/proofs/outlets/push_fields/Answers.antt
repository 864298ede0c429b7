use Rattle.std.proofs.Common.{map}
use Rattle.rb_model.specs.Ports.{field_outlets}
use Rattle.block_plan.specs.Outlets.{outlet_seen}
use Rattle.block_plan.proofs.Numbered.{numbered_more}
use Rattle.block_plan.proofs.outlets.push_fields.Goals as goal

pub loop-index-preserved : goal.loop-index-preserved
loop-index-preserved c =
    numbered_more field_outlets c.args.fields.now c.loop-index.index c.in_ok-number_of.field-0 c.index-fields-index.result (map outlet_seen c.args.out.now.items) (map outlet_seen c.loop-index.out.items) (map outlet_seen c.push_field.new.out.items) c.loop-index-test.true c.index-fields-index.is c.in_ok-number_of.ensures.is
    c.loop-index.invariant c.in_ok-push_field.ensures
