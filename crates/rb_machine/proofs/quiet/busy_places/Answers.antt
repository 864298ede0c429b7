use Rattle.std.proofs.Common.{rules, ◌≡◌, ◌+◌, ◌-◌, ◌<◌, false, true, Some, length, slice_get, refl, sym, subst, arith}
use Rattle.std.proofs.lemmas.Option.{slice_get_read}
use Rattle.rb_machine.specs.Quiet.{IsNextBusy}
use Rattle.rb_machine.specs.Quiet as spec
use Rattle.rb_machine.proofs.Busy.{KnownFrom, busy_here, known_more, none_left, light_below}
use Rattle.rb_machine.proofs.quiet.busy_places.Goals as goal
use Rattle.rb_machine.proofs.quiet.busy_places.Goals.{then-not-is_light, else-not-is_light}

pub loop-at-init : goal.loop-at-init
loop-at-init c = record {
  sized = search rules;
  known = λ k from to. absurd (omega (arith, from, to));
  first = none_left c.args.fields.now _ refl;
}

pub loop-at-preserved : goal.loop-at-preserved
loop-at-preserved c =
    let fields = c.args.fields.now in
    let i = c.loop-at.at - 1 in
    let f = c.index-fields-at.result in
    let low : i < length fields = omega (arith, c.loop-at-test.true, c.loop-at.auto.at) in
    let up : c.loop-at.at ≡ i + 1 = omega (arith, c.loop-at-test.true) in
    let here : slice_get fields i ≡ Some f = slice_get_read fields (length fields) i f refl low c.index-fields-at.is in
    let after : IsNextBusy fields (i + 1) c.loop-at.busy = subst (λ m. IsNextBusy fields m c.loop-at.busy) up c.loop-at.invariant.first in
    let first : IsNextBusy fields i c.if-not-is_light.busy = elim c.if-not-is_light.branch [
      | then-not-is_light w ↦
          let q : spec.is_light f ≡ false = sym w.if-not-is_light.ensures in
          subst (IsNextBusy fields i) (sym w.busy-is) (busy_here fields i f here q)
      | else-not-is_light w ↦
          let q : spec.is_light f ≡ true = sym w.if-not-is_light.ensures in
          subst (IsNextBusy fields i) (sym w.busy-is) (light_below fields i c.loop-at.busy f here q after)
    ] in
    let known : KnownFrom fields c.loop-at.next.items (i + 1) = subst (KnownFrom fields c.loop-at.next.items) up c.loop-at.invariant.known in
    record {
      sized = search rules;
      known = known_more fields c.loop-at.next.items i c.if-not-is_light.busy c.loop-at.invariant.sized low first known;
      first = first;
    }

pub returns : goal.returns
returns c = record {
  sized = c.loop-at.invariant.sized;
  busy = λ k low. c.loop-at.invariant.known k (omega (arith, c.loop-at-test.false)) low;
}
