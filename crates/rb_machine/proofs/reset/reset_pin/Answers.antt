use Rattle.std.proofs.Common.{codes, sym, ◌∙◌}
use Rattle.rb_machine.proofs.Placing.{place_at}
use Rattle.rb_machine.proofs.reset.reset_pin.Goals as goal

pub returns-in-None : goal.returns-in-None
returns-in-None c =
    let b = c.args.block.now in
    let pins = c.args.pins.now in
    rw c.in-None.is (c.number_at.ensures ∙ sym (place_at b c.requires.sound (codes "PRESETn") c.args.plan.now.bus.resetn c.requires.planned.bus.resetn pins c.requires.sized))
