use Rattle.std.proofs.Common.{◌≡◌, ◌<◌, ◌∙◌, Some, ap, arith, length, refl, slice_get}
use Rattle.std.proofs.lemmas.Option.{slice_get_read}
use Rattle.rb_machine.proofs.Lines.{no_signal}
use Rattle.rb_machine.proofs.Placing.{signal_is}
use Rattle.rb_machine.proofs.reset.signal_pin.Goals as goal

pub returns-in-None : goal.returns-in-None
returns-in-None c = no_signal c.args.block.now c.deref.result.now _ c.args.number (rw c.deref.ensures.value c.requires.planned.signals) c.in-None.ensures.lookup.3

pub returns-in-Some : goal.returns-in-Some
returns-in-Some c =
    let b = c.args.block.now in
    let places = c.deref.result.now in
    let l = c.in-Some.ensures.lookup in
    let there : slice_get places c.args.number ≡ Some c.in-Some.place.now = slice_get_read places (length places) c.args.number c.in-Some.place.now refl l.3.0 l.1 in
    let low : c.args.number < length b.signals = omega (arith, c.len.ensures, ap (λ b. length b.signals) c.block.view_is, c.if-number-len.false) in
    c.number_at.ensures ∙ signal_is b c.requires.sound places (rw c.deref.ensures.value c.requires.planned.signals) c.args.number c.in-Some.place.now there low c.args.pins.now c.requires.sized
