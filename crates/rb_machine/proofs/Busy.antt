-- The places of the fields that aren't light.
use Rattle.std.proofs.Common.{◌≡◌, ◌≢◌, ℕ, ◌+◌, ◌<◌, ◌≤◌, Bool, true, false, Some, List, length, slice_get, get_or, sym, ap, subst, ◌∙◌, arith, get_or-set_other, get_or-set_same, inl, inr}
use Rattle.std.proofs.Math.ListN.{set}
use Rattle.std.proofs.lemmas.Option.{get_or_from_slice_get, same_Some, slice_get_within}
use Rattle.rb_model.specs.declared.block.Field.{Field}
use Rattle.rb_machine.specs.Quiet.{AreNextBusy, IsNextBusy, is_light, rests}
use Rattle.plain_lemmas.proofs.Numbers.{same_or_above}

-- past the last place there is none
pub none_left : (fields : List Field) (n : ℕ) → n ≡ length fields → IsNextBusy fields n n
none_left fields n e = record {
  onward = omega arith;
  light = λ m f from to here. absurd (omega (arith, from, to));
  busy = λ f here. let low : n < length fields = slice_get_within fields n f here in absurd (omega (arith, low, e));
}

-- one place lower
pub light_below : (fields : List Field) (i j : ℕ) (f : Field) → slice_get fields i ≡ Some f → is_light f ≡ true → IsNextBusy fields (i + 1) j → IsNextBusy fields i j
light_below fields i j f here q after = record {
  onward = omega (arith, after.onward);
  light = λ m g from to there. elim (same_or_above i m from) [
    | inl e ↦ ap is_light (sym (same_Some f g (sym here ∙ (ap (slice_get fields) (sym e) ∙ there)))) ∙ q
    | inr above ↦ after.light m g above to there
  ];
  busy = after.busy;
}

pub busy_here : (fields : List Field) (i : ℕ) (f : Field) → slice_get fields i ≡ Some f → is_light f ≡ false → IsNextBusy fields i i
busy_here fields i f here q = record {
  onward = omega arith;
  light = λ m g from to there. absurd (omega (arith, from, to));
  busy = λ g there. ap is_light (sym (same_Some f g (sym here ∙ there))) ∙ q;
}

-- what is known from place i on
abbrev pub KnownFrom : List Field → List ℕ → ℕ → Type 0
KnownFrom fields next i = (k : ℕ) → i ≤ k → k < length fields → IsNextBusy fields k (get_or next k 0)

pub known_more : (fields : List Field) (next : List ℕ) (i y : ℕ) → length next ≡ length fields → i < length fields → IsNextBusy fields i y → KnownFrom fields next (i + 1) → KnownFrom fields (set next i y) i
known_more fields next i y sized low is after k from to = elim (same_or_above i k from) [
  | inl e ↦
      let at : get_or (set next i y) i 0 ≡ y = get_or-set_same next i y 0 (omega (arith, sized, low)) in
      subst (λ m. IsNextBusy fields m (get_or (set next i y) m 0)) (sym e) (subst (IsNextBusy fields i) (sym at) is)
  | inr above ↦
      let ne : k ≢ i = λ e. let q : k ≡ i = e in omega (arith, above) in
      subst (IsNextBusy fields k) (sym (get_or-set_other next i k y 0 ne)) (after k above to)
]

-- what is found of a place
pub found_at : (fields : List Field) (next : List ℕ) (k j : ℕ) → AreNextBusy fields next → slice_get next k ≡ Some j → IsNextBusy fields k j
found_at fields next k j are at = let low : k < length next = slice_get_within next k j at in subst (IsNextBusy fields k) (get_or_from_slice_get next k j 0 at) (are.busy k (omega (arith, low, are.sized)))

-- where no field is under reset the light ones rest
pub rests_light : (is_reset : Bool) (f : Field) (q : Bool) → is_reset ≡ false → is_light f ≡ q → rests is_reset f ≡ q
rests_light false f q calm h = h
rests_light true f q calm h = cc
