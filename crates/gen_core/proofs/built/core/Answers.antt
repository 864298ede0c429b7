use Rattle.std.proofs.Common.{◌∙◌, sym, subst}
use Rattle.std.specs.Prelude.{length, map}
use Rattle.rtl_net.specs.Net.{undriven}
use Rattle.rb_model.specs.Ports.{outlets}
use Rattle.rb_model.specs.Kept.{field_kept}
use Rattle.gen_scene.specs.Bases.{HasKept}
use Rattle.gen_scene.proofs.Worths.{HasInlet-extends, HasPins-extends}
use Rattle.gen_core.specs.Ties.{AreAwaiting, SeatsTaken, outlet_pin}
use Rattle.gen_core.proofs.Building.{none_left}
use Rattle.gen_core.proofs.Naming.{still_free}
use Rattle.gen_core.proofs.built.core.Goals as goal

pub tied-requires-clause-base : goal.tied-requires-clause-base
tied-requires-clause-base c =
    let old = c.args.net.now in
    let mid = c.registers.new.net in
    let b = c.args.block.now in
    record {
      sound = c.requires.sound;
      planned = c.in_ok-plan.ensures;
      inlet = HasInlet-extends old mid c.in_ok-kept.ensures.older c.args.inlet c.requires.inlet;
      pins = HasPins-extends old mid c.in_ok-kept.ensures.older b c.args.pins.now c.requires.pins;
      kept = subst (HasKept b c.args.inlet mid) (sym c.deref.ensures.value) (c.in_ok-kept.ensures.worth c.args.inlet);
    }

pub tied-requires-clause-awaits : goal.tied-requires-clause-awaits
tied-requires-clause-awaits c =
    subst (AreAwaiting c.args.block.now c.in_ok-plan.plan c.args.pins.now c.registers.new.net) (sym c.deref.ensures.value) (record { each = c.in_ok-kept.ensures.awaits })

pub tied-requires-clause-free : goal.tied-requires-clause-free
tied-requires-clause-free c = λ o h.
    still_free c.args.block.now c.args.net.now c.registers.new.net o (c.names_differ.ensures c.args.block.now c.requires.sound) c.in_ok-kept.ensures.seats c.in_ok-kept.ensures.registers h (c.requires.outputs o h)

pub returns-clause-undriven : goal.returns-clause-undriven
returns-clause-undriven c =
    none_left (undriven c.args.net.now.nodes) (undriven c.registers.new.net.nodes) (undriven c.tied.new.net.nodes) (length (field_kept c.args.block.now)) c.in_ok-kept.ensures.undriven c.in_ok-answer.ensures.undriven

pub returns-clause-registers : goal.returns-clause-registers
returns-clause-registers c = c.in_ok-answer.ensures.registers ∙ c.in_ok-kept.ensures.registers

pub returns-clause-seats : goal.returns-clause-seats
returns-clause-seats c =
    subst (λ ss. SeatsTaken ss c.tied.new.net.seats (map outlet_pin (outlets c.args.block.now))) c.in_ok-kept.ensures.seats c.in_ok-answer.ensures.seats
