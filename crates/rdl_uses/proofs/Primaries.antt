-- Primaries by their places.
use Rattle.std.proofs.Common.{◌≡◌, ◌∙◌, ℕ, suc, ◌+◌, ◌-◌, Bool, true, false, cond, bytes_eq, List, [], ◌∷◌, ◌++◌, length, map, find, slice_get, unwrap_or, Option, None, Some, option_to_list, refl, sym, ap, subst, arith}
use Rattle.std.specs.List.{list_any, position_from}
use Rattle.std.proofs.lemmas.List.{length-map, map-append}
use Rattle.plain_lemmas.proofs.Bools.{or-false}
use Rattle.rdl_tree.specs.declared.expr.Name.{Name}
use Rattle.rdl_values.specs.NoNode.{has_primary, is_primary}
use Rattle.rdl_values.specs.Uses.{Use, same_name}
use Rattle.rdl_values.specs.Firsts.{AreFirsts, place_of}
use Rattle.rdl_values.proofs.Named.{IsPut, firsts_more}
use Rattle.plain_lemmas.proofs.Lists.{position_from-least as place-from}
use Rattle.rdl_uses.specs.Before.{AreEarlier, names_of_uses}
use Rattle.rdl_uses.specs.declared.earlier.Earlier.{Earlier}

-- whether the use at a place, counted from this one, is a primary
abbrev primary_from : ℕ → List Use → Option ℕ → Bool
primary_from i us None = false
primary_from i us (Some k) = unwrap_or (slice_get (map is_primary us) (k - i)) false

primary-at : (n : Name) (i : ℕ) (us : List Use) → has_primary us n ≡ primary_from i us (position_from (λ m. bytes_eq m n.text.now) i (names_of_uses us))
primary-at n i [] = refl
primary-at n i (u ∷ us) = go (bytes_eq u.name.text.now n.text.now) (primary-at n (i + 1) us)
  where
    places : Option ℕ
    places = position_from (λ m. bytes_eq m n.text.now) (i + 1) (names_of_uses us)

    behind : (o : Option ℕ) → places ≡ o → primary_from (i + 1) us o ≡ primary_from i (u ∷ us) o
    behind None e = refl
    behind (Some k) e =
        let l = place-from (λ m. bytes_eq m n.text.now) (i + 1) (names_of_uses us) k e in
        let next : k - i ≡ suc (k - (i + 1)) = omega (arith, l) in
        ap (λ j. unwrap_or (slice_get (map is_primary (u ∷ us)) j) false) (sym next)

    go : (b : Bool) → has_primary us n ≡ primary_from (i + 1) us places → list_any is_primary (option_to_list (cond b (Some u) (find (λ u. same_name u.name n) us))) ≡ primary_from i (u ∷ us) (cond b (Some i) places)
    go true ih = let here : i - i ≡ 0 = omega arith in or-false (is_primary u) ∙ ap (λ j. unwrap_or (slice_get (map is_primary (u ∷ us)) j) false) (sym here)
    go false ih = ih ∙ behind places refl

-- at the place that a table has
abbrev primary_by : List Bool → Option ℕ → Bool
primary_by ps None = false
primary_by ps (Some k) = unwrap_or (slice_get ps k) false

pub primary-by : (n : Name) (us : List Use) (e : Earlier) (o : Option ℕ) → AreEarlier e us → o ≡ place_of e.places n.text.now → primary_by e.primaries.items o ≡ has_primary us n
primary-by n us e o h q =
    ap (λ ps. primary_by ps o) h.primaries ∙ ap (primary_by (map is_primary us)) (q ∙ h.places.at n.text.now) ∙ first (position_from (λ m. bytes_eq m n.text.now) 0 (names_of_uses us)) ∙ sym (primary-at n 0 us)
  where
    first : (o : Option ℕ) → primary_by (map is_primary us) o ≡ primary_from 0 us o
    first None = refl
    first (Some k) = let same : k - 0 ≡ k = omega arith in ap (λ j. unwrap_or (slice_get (map is_primary us) j) false) (sym same)

-- one use more
pub earlier_more : (old new : Earlier) (us : List Use) (u : Use) (name : List ℕ) (primary : Bool) (place : ℕ) → AreEarlier old us → u.name.text.now ≡ name → is_primary u ≡ primary → place ≡ length old.primaries.items
    → IsPut name place old.places new.places → new.primaries.items ≡ old.primaries.items ++ (primary ∷ []) → AreEarlier new (us ++ (u ∷ []))
earlier_more old new us u name primary place h named is at put pushed = record {
  places = subst (AreFirsts new.places) (sym (map-append (λ u. u.name.text.now) us (u ∷ []) ∙ ap (λ n. names_of_uses us ++ (n ∷ [])) named))
      (firsts_more old.places new.places (names_of_uses us) name place h.places (at ∙ ap length h.primaries ∙ length-map us is_primary ∙ sym (length-map us (λ u. u.name.text.now))) put);
  primaries = pushed ∙ (λ j. h.primaries j ++ (sym is j ∷ [])) ∙ sym (map-append is_primary us (u ∷ []));
}
