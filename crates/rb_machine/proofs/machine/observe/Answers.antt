use Rattle.std.proofs.Common.{ℕ, List, ap, ◌∙◌, refl, sym, subst, length}
use Rattle.rb_model.specs.Protocol.{bus_of}
use Rattle.rb_model.specs.Run.{pins_of}
use Rattle.rb_machine.specs.Scene.{map_of}
use Rattle.rb_machine.specs.Transfers.{IsTransfer}
use Rattle.rb_machine.specs.Resets.{NoneReset}
use Rattle.rb_machine.proofs.Resetting.{none_reset}
use Rattle.rb_machine.proofs.machine.observe.Goals as goal

pub hold-requires-clause-calm : goal.hold-requires-clause-calm
hold-requires-clause-calm c e =
    none_reset c.args.block.now (pins_of c.args.block.now c.read_pins.new.into) c.args.ways.now c.requires.ways (sym c.some_asserted-is_reset.ensures ∙ e)

pub returns-clause-calm : goal.returns-clause-calm
returns-clause-calm c e =
    let b = c.args.block.now in
    let seen = none_reset b (pins_of b c.read_pins.new.into) c.args.ways.now c.requires.ways (sym c.some_asserted-is_reset.ensures ∙ e) in
    subst (λ (x : List ℕ). NoneReset b (pins_of b x)) c.read_pins.ensures seen

pub returns-clause-transfer : goal.returns-clause-transfer
returns-clause-transfer c =
    let b = c.args.block.now in
    let seen = c.bus_at-bus.ensures b c.requires.sound c.requires.planned (ap length c.read_pins.ensures ∙ c.requires.sized) ∙ ap (λ x. bus_of (pins_of b x)) c.read_pins.ensures in
    subst (λ p. IsTransfer b p (map_of c.hold.new.held) c.transfer_of.result) seen (c.transfer_of.ensures (map_of c.hold.new.held) refl)
