use Rattle.rb_machine.proofs.Placing.{bus_is}
use Rattle.rb_machine.proofs.bus.bus_at.Goals as goal

pub returns : goal.returns
returns c b sound planned long =
    bus_is b sound c.args.plan.now.bus planned.bus c.args.pins.now long c.number_at.result c.number_at-2.result c.number_at-3.result c.number_at-4.result c.number_at-5.result c.number_at-6.result
    c.number_at.ensures c.number_at-2.ensures c.number_at-3.ensures c.number_at-4.ensures c.number_at-5.ensures c.number_at-6.ensures
