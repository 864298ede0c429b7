-- The places of pins by name.
use Rattle.std.specs.Str.{bytes_eq}
use Rattle.std.proofs.Common.{◌≡◌, ℕ, zero, suc, ◌+◌, ◌<◌, Bool, true, false, if◌then◌else◌, Option, Some, None, IsSome, List, [], ◌∷◌, ◌++◌, length, map, filter, take, get_or, slice_get, refl, sym, ap, ◌∙◌, subst, ◌⊎◌, inl, inr, arith}
use Rattle.std.proofs.lemmas.List.{append-nil, take_more, map-append}
use Rattle.std.proofs.lemmas.List.Elements.{filter-append}
use Rattle.std.proofs.lemmas.Option.{slice_get_within, same_Some}
use Rattle.rb_base.specs.declared.ports.Pin.{Pin}
use Rattle.rb_base.specs.declared.ports.Port.{Port}
use Rattle.v_design.specs.Design.{inputs_among, is_data_input, port_pin}
use Rattle.rb_model.specs.Ports.{input_pins}
use Rattle.rb_model.proofs.Apart.{Apart-place, bytes_eq-from, bytes_eq-to}
use Rattle.rb_model.proofs.InputPins.{input_names_apart}
use Rattle.block_plan.specs.declared.places.Places.{Places}
use Rattle.block_plan.specs.Places.{AreKnown, ArePlaces, Known, known_at}
use Rattle.block_plan.specs.Plan.{IsPlaceOf}
use Rattle.plain_lemmas.proofs.Lists.{get-front_of as front, get-last as last}

-- elements of a list that got one more
front_or_last : {X : Type 0} (xs : List X) (x y : X) (k : ℕ) → slice_get (xs ++ x ∷ []) k ≡ Some y → (slice_get xs k ≡ Some y) ⊎ ((k ≡ length xs) × (x ≡ y))
front_or_last [] x y zero e = inr (refl, same_Some x y e)
front_or_last [] x y (suc k) e = cc
front_or_last (z ∷ xs) x y zero e = inl e
front_or_last (z ∷ xs) x y (suc k) e = elim (front_or_last xs x y k e) [ inl h ↦ inl h | inr h ↦ inr (ap (λ n. suc n) h.0, h.1) ]

known_or_last : (old new : Option ℕ) (text name : List ℕ) (place w : ℕ) → new ≡ (if bytes_eq text name then Some place else old) → new ≡ Some w → ((text ≡ name) × (place ≡ w)) ⊎ (old ≡ Some w)
known_or_last old new text name place w is at = go (bytes_eq text name) refl (sym is ∙ at)
  where
    go : (b : Bool) → bytes_eq text name ≡ b → (if b then Some place else old) ≡ Some w → ((text ≡ name) × (place ≡ w)) ⊎ (old ≡ Some w)
    go true e h = inl (bytes_eq-to text name e, same_Some place w h)
    go false e h = inr h

still_known : (old new : Option ℕ) (text name : List ℕ) (place : ℕ) → new ≡ (if bytes_eq text name then Some place else old) → IsSome old → IsSome new
still_known old new text name place is h = go (bytes_eq text name) is
  where
    go : (b : Bool) → new ≡ (if b then Some place else old) → IsSome new
    go true e = rw e refl
    go false e = rw e h

now_known : (old new : Option ℕ) (text name : List ℕ) (place : ℕ) → new ≡ (if bytes_eq text name then Some place else old) → text ≡ name → IsSome new
now_known old new text name place is e = let t : bytes_eq text name ≡ true = bytes_eq-from text name e in let q : new ≡ Some place = is ∙ ap (λ c. if c then Some place else old) t in rw q refl

-- one pin more
pub more_known : (pins : List Pin) (p : Pin) (text : List ℕ) (place : ℕ) (known known' : Known) → text ≡ p.name → place ≡ length pins → AreKnown pins known
    → ((name : List ℕ) → known_at known' name ≡ (if bytes_eq text name then Some place else known_at known name)) → AreKnown (pins ++ p ∷ []) known'
more_known pins p text place known known' named at h updated = record {
  right = λ name w e. elim (known_or_last (known_at known name) (known_at known' name) text name place w (updated name) e) [
    | inl new ↦ (p, subst (λ k. slice_get (pins ++ p ∷ []) k ≡ Some p) (sym at ∙ new.1) (last pins p), sym named ∙ new.0)
    | inr old ↦ let (q, here, same) = h.right name w old in (q, front pins (p ∷ []) q w here, same)
  ];
  every = λ k q here. elim (front_or_last pins p q k here) [
    | inl old ↦ still_known (known_at known q.name) (known_at known' q.name) text q.name place (updated q.name) (h.every k q old)
    | inr new ↦ now_known (known_at known q.name) (known_at known' q.name) text q.name place (updated q.name) (named ∙ ap (λ z. z.name) new.1)
  ];
}

-- the inputs among one port more
pub input_more : (ps : List Port) (i : ℕ) (p d : Port) → i < length ps → p ≡ get_or ps i d → is_data_input p ≡ true → inputs_among (take (i + 1) ps) ≡ inputs_among (take i ps) ++ port_pin p ∷ []
input_more ps i p d l is t =
    let q : is_data_input (get_or ps i d) ≡ true = ap is_data_input (sym is) ∙ t in
    let f : filter is_data_input (get_or ps i d ∷ []) ≡ get_or ps i d ∷ [] = ap (λ c. if c then get_or ps i d ∷ [] else []) q in
    ap inputs_among (take_more ps i d l) ∙ (ap (map port_pin) (filter-append is_data_input (take i ps) (get_or ps i d ∷ []) ∙ ap (λ xs. filter is_data_input (take i ps) ++ xs) f)
    ∙ (map-append port_pin (filter is_data_input (take i ps)) (get_or ps i d ∷ []) ∙ ap (λ z. inputs_among (take i ps) ++ port_pin z ∷ []) (sym is)))

pub input_none : (ps : List Port) (i : ℕ) (p d : Port) → i < length ps → p ≡ get_or ps i d → is_data_input p ≡ false → inputs_among (take (i + 1) ps) ≡ inputs_among (take i ps)
input_none ps i p d l is t =
    let q : is_data_input (get_or ps i d) ≡ false = ap is_data_input (sym is) ∙ t in
    let f : filter is_data_input (get_or ps i d ∷ []) ≡ [] = ap (λ c. if c then get_or ps i d ∷ [] else []) q in
    ap inputs_among (take_more ps i d l) ∙ (ap (map port_pin) (filter-append is_data_input (take i ps) (get_or ps i d ∷ []) ∙ ap (λ xs. filter is_data_input (take i ps) ++ xs) f)
    ∙ ap (map port_pin) (append-nil (filter is_data_input (take i ps))))

pub none_known : (known : Known) → ((name : List ℕ) → known_at known name ≡ None) → AreKnown [] known
none_known known h = record { right = λ name w e. absurd (let q : Some w ≡ None = sym e ∙ h name in cc); every = λ k p here. cc }

not_some : (o : Option ℕ) → o ≡ None → IsSome o → ⊥
not_some None e h = cc
not_some (Some x) e h = cc

abbrev pin_names : List Pin → List (List ℕ)
pin_names ps = map (λ p. p.name) ps

name_at : (ps : List Pin) (k : ℕ) (p : Pin) → slice_get ps k ≡ Some p → slice_get (pin_names ps) k ≡ Some p.name
name_at [] k p e = cc
name_at (q ∷ ps) zero p e = ap (λ r. Some r.name) (same_Some q p e)
name_at (q ∷ ps) (suc k) p e = name_at ps k p e

pub found_place : (p : Places) → ArePlaces p → (name : List ℕ) (place : ℕ) → known_at p.known name ≡ Some place → IsPlaceOf p.block.now name place
found_place p h name place at =
    let (q, here, same) = h.known.right name place at in
    let pins = input_pins p.block.now in
    record {
      found = λ r there. ap (λ z. z.name) (same_Some r q (sym there ∙ here)) ∙ same;
      every = λ k r there is. Apart-place (pin_names pins) place k name (input_names_apart p.block.now h.sound) (name_at pins place q here ∙ ap Some same) (name_at pins k r there ∙ ap Some is);
    }

pub no_place : (p : Places) → ArePlaces p → (name : List ℕ) → known_at p.known name ≡ None → IsPlaceOf p.block.now name p.end
no_place p h name at = record {
  found = λ q here. let low : p.end < length (input_pins p.block.now) = slice_get_within (input_pins p.block.now) p.end q here in absurd (omega (arith, low, h.end));
  every = λ k q here same. absurd (not_some (known_at p.known name) at (subst (λ m. IsSome (known_at p.known m)) same (h.known.every k q here)));
}
