use Rattle.std.specs.List.{slice_get}
use Rattle.std.specs.Str.{bytes_eq}
use Rattle.std.proofs.Common.{◌≡◌, ℕ, ◌+◌, ◌<◌, if◌then◌else◌, Some, IsSome, List, length, take, get_or, refl, ap, sym, ◌∙◌, inl, inr, subst, add-one}
use Rattle.std.proofs.lemmas.Map.Text.{btree_map_updates_str}
use Rattle.rb_base.specs.declared.ports.Pin.{Pin}
use Rattle.cyc_sim.specs.declared.listing.Wire.{Wire}
use Rattle.cyc_sim.specs.Compiled.{Known, known_at}
use Rattle.cyc_sim.specs.Preparing.{ArePlaced}
use Rattle.cyc_sim.proofs.Knowing.{known_or_last, front_cases, front_last}
use Rattle.plain_lemmas.proofs.Lists.{get-at, take-get_more as front_more}
use Rattle.cyc_sim.proofs.Standing.{now-known, still-known}
use Rattle.cyc_sim.proofs.prepare.place_pins.Goals as goal

-- one pin more
more_placed : (pins : List Pin) (i first : ℕ) (d : Pin) (text : List ℕ) (w : Wire) (old new : Known) → i < length pins → text ≡ (get_or pins i d).name → w.place ≡ first + i → w.width ≡ (get_or pins i d).width
    → ArePlaced (take i pins) first old → ((name : List ℕ) → known_at new name ≡ (if bytes_eq text name then Some w else known_at old name)) → ArePlaced (take (i + 1) pins) first new
more_placed pins i first d text w old new l is place width h updated = record {
  each = λ j p at. elim (front_cases pins i j p (ap (λ n. slice_get (take n pins) j) (sym (add-one i)) ∙ at)) [
    | inl before ↦ still-known old new text w updated p.name (h.each j p before)
    | inr here ↦
        let f : Some p ≡ Some (get_or pins i d) = sym here ∙ get-at pins i d l in let f' : p ≡ get_or pins i d = cc in
        let P : List ℕ → Type 0 = λ k. IsSome (known_at new k) in subst P (is ∙ ap (λ q. q.name) (sym f')) (now-known old new text w updated)
  ];
  placed = λ name x at. elim (known_or_last (known_at old name) (known_at new name) text name w x (updated name) at) [
    | inl last ↦ (i, get_or pins i d, ap (λ n. slice_get (take n pins) i) (add-one i) ∙ front_last pins i d l, sym is ∙ last.0, ap (λ y. y.place) last.1 ∙ place, ap (λ y. y.width) last.1 ∙ width)
    | inr before ↦ let (j, p, here, same, at_place, wide) = h.placed name x before in (j, p, ap (λ n. slice_get (take n pins) j) (add-one i) ∙ front_more pins i j p here, same, at_place, wide)
  ];
}

pub loop-index-preserved : goal.loop-index-preserved
loop-index-preserved c =
    more_placed c.args.pins.now c.loop-index.index c.args.first c.index-pins-index.result c.bytes_of.result.now _ c.loop-index.placed c.insert.new.self c.loop-index-test.true
    (c.bytes_of.ensures ∙ ap (λ p. p.name) c.index-pins-index.is) refl (ap (λ p. p.width) c.index-pins-index.is) c.loop-index.invariant
    (btree_map_updates_str c.bytes_of.result.now c.loop-index.placed c.insert.new.self _ c.in_ok-insert.ensures.updates)
