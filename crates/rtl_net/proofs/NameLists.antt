-- Names in lists, by their places.
use Rattle.std.specs.List.{list_any, position_from}
use Rattle.std.specs.Str.{bytes_eq}
use Rattle.std.proofs.Common.{◌≡◌, ℕ, suc, ◌+◌, Bool, true, false, cond, ◌||◌, List, [], ◌∷◌, ◌++◌, Vec, Global, length, take, slice_get, Option, Some, None, position, is_some, IfSome, IfNone, refl, ap, sym, ◌∙◌, subst, arith, inl, inr}
use Rattle.std.specs.BTreeMap.{BTreeMap, UpdatesBy, get_by, is_at}
use Rattle.std.specs.Cmp.Lexicographic.{slice_cmp}
use Rattle.std.specs.declared.cmp.Ordering.{Ordering}
use Rattle.std.specs.Map.{KeepsOthers, lookup}
use Rattle.std.specs.Ordering.{eq_by_cmp, nat_cmp}
use Rattle.std.proofs.lemmas.Cmp.{eq_by_cmp_equiv, nat_list_cmp_total}
use Rattle.std.proofs.lemmas.Map.Text.{is_eq-slice_cmp}
use Rattle.std.proofs.lemmas.Slice.Eq.{bytes_eq-Decides}
use Rattle.std.proofs.lemmas.Iterator.Adapters.{position_from-zero}
use Rattle.std.proofs.lemmas.List.Folds.{list_any-append}
use Rattle.rtl_net.specs.Names.{Lacks}
use Rattle.rtl_net.specs.Places.{ArePlaces, HasNames, place_of}
use Rattle.rtl_net.specs.declared.names.Names.{Names}
use Rattle.plain_lemmas.proofs.Bools.{or-left_false, or-right_false, true_or_false as told}
use Rattle.plain_lemmas.proofs.Lists.{bytes_eq-same, bytes_eq-swap}

or-false : (a b : Bool) → a ≡ false → b ≡ false → (a || b) ≡ false
or-false true b p q = p
or-false false b p q = q

module _ (q : List ℕ) where
  pub found_from : (k : ℕ) (xs : List (List ℕ)) (i : ℕ) → position_from (bytes_eq q) k xs ≡ Some i
      → (j : ℕ) × (i ≡ k + j) × (slice_get xs j ≡ Some q) × Lacks (take j xs) q
  found_from k [] i h = cc
  found_from k (x ∷ xs) i h = elim (told (bytes_eq q x)) [
    | inl t ↦ let e : Some k ≡ Some i = sym (ap (λ b. cond b (Some k) (position_from (bytes_eq q) (k + 1) xs)) t) ∙ h in
        let k_i : k ≡ i = cc in
        (0, omega arith, ap Some (sym ((bytes_eq-Decides q x).0 t)), refl)
    | inr t ↦ let e : position_from (bytes_eq q) (k + 1) xs ≡ Some i = sym (ap (λ b. cond b (Some k) (position_from (bytes_eq q) (k + 1) xs)) t) ∙ h in
        let r = found_from (k + 1) xs i e in
        (suc r.0, omega (arith, r.1), r.2, or-false (bytes_eq q x) (list_any (bytes_eq q) (take r.0 xs)) t r.3)
  ]

  pub absent_from : (k : ℕ) (xs : List (List ℕ)) → position_from (bytes_eq q) k xs ≡ None → Lacks xs q
  absent_from k [] h = refl
  absent_from k (x ∷ xs) h = elim (told (bytes_eq q x)) [
    | inl t ↦ absurd (let e : Some k ≡ None = sym (ap (λ b. cond b (Some k) (position_from (bytes_eq q) (k + 1) xs)) t) ∙ h in cc)
    | inr t ↦ or-false (bytes_eq q x) (list_any (bytes_eq q) xs) t (absent_from (k + 1) xs (sym (ap (λ b. cond b (Some k) (position_from (bytes_eq q) (k + 1) xs)) t) ∙ h))
  ]

  pub found_at : (xs : List (List ℕ)) (o : Option ℕ) → o ≡ position (bytes_eq q) xs
      → IfSome o (λ i. slice_get xs i ≡ Some q) × IfSome o (λ i. Lacks (take i xs) q) × IfNone o (Lacks xs q)
  found_at xs None e = (tt, tt, absent_from 0 xs (sym (e ∙ position_from-zero (bytes_eq q) xs)))
  found_at xs (Some i) e =
      let r = found_from 0 xs i (sym (e ∙ position_from-zero (bytes_eq q) xs)) in
      let z : r.0 ≡ i = omega (arith, r.1) in (
        subst (λ j. slice_get xs j ≡ Some q) z r.2,
        subst (λ j. Lacks (take j xs) q) z r.3,
        tt,
      )

-- what a table has once a name is put in at a place
abbrev pub IsPut : List ℕ → ℕ → Names → Names → Type 0
IsPut name at old new = (n : List ℕ) → place_of new n ≡ cond (bytes_eq name n) (Some at) (place_of old n)

-- the same names have the same places
abbrev pub AreSame : Names → Names → Type 0
AreSame old new = (n : List ℕ) → place_of new n ≡ place_of old n

-- a name that is put at the end of those that lack it
place_pushed : (n name : List ℕ) (k : ℕ) (xs : List (List ℕ)) → Lacks xs name
    → position_from (bytes_eq n) k (xs ++ name ∷ []) ≡ cond (bytes_eq name n) (Some (k + length xs)) (position_from (bytes_eq n) k xs)
place_pushed n name k [] l = ap (λ b. cond b (Some k) None) (bytes_eq-swap n name) ∙ ap (λ j. cond (bytes_eq name n) (Some j) None) (omega arith)
place_pushed n name k (x ∷ xs) l =
    ap (λ o. cond (bytes_eq n x) (Some k) o) (place_pushed n name (k + 1) xs (or-right_false (bytes_eq name x) (list_any (bytes_eq name) xs) l)) ∙ go (bytes_eq name n) (bytes_eq n x) apart
  where
    apart : bytes_eq name n ≡ true → bytes_eq n x ≡ false
    apart t = subst (λ m. bytes_eq m x ≡ false) (bytes_eq-same name n t) (or-left_false (bytes_eq name x) (list_any (bytes_eq name) xs) l)

    rest : Option ℕ
    rest = position_from (bytes_eq n) (k + 1) xs

    true_false : true ≡ false → ⊥
    true_false p = cc

    go : (a b : Bool) → (a ≡ true → b ≡ false) → cond b (Some k) (cond a (Some (k + 1 + length xs)) rest) ≡ cond a (Some (k + suc (length xs))) (cond b (Some k) rest)
    go true true h = absurd (true_false (h refl))
    go true false h = ap Some (omega arith)
    go false b h = refl

pub places_none : (t : Names) → ((n : List ℕ) → place_of t n ≡ None) → ArePlaces t []
places_none t h = record { at = h }

pub places_more : (old new : Names) (names : List (List ℕ)) (name : List ℕ) → ArePlaces old names → Lacks names name → IsPut name (length names) old new → ArePlaces new (names ++ name ∷ [])
places_more old new names name h l put = record {
  at = λ n. put n ∙ ap (cond (bytes_eq name n) (Some (length names))) (h.at n ∙ position_from-zero (bytes_eq n) names) ∙ ap (λ k. cond (bytes_eq name n) (Some k) (position_from (bytes_eq n) 0 names)) (omega arith)
      ∙ sym (place_pushed n name 0 names l) ∙ sym (position_from-zero (bytes_eq n) (names ++ name ∷ []));
}

pub places_same : (old new : Names) (names : List (List ℕ)) → ArePlaces old names → AreSame old new → ArePlaces new names
places_same old new names h same = record { at = λ n. same n ∙ h.at n }

pub names_none : (t : Names) → ((n : List ℕ) → place_of t n ≡ None) → HasNames t []
names_none t h = record { at = λ n. ap is_some (h n) }

pub names_more : (old new : Names) (names : List (List ℕ)) (name : List ℕ) (at : ℕ) → HasNames old names → IsPut name at old new → HasNames new (names ++ name ∷ [])
names_more old new names name at h put = record {
  at = λ n. ap is_some (put n) ∙ go (place_of old n) (bytes_eq name n) ∙ ap (λ b. b || (bytes_eq name n || false)) (h.at n) ∙ ap (λ b. list_any (bytes_eq n) names || (b || false)) (bytes_eq-swap name n)
      ∙ sym (list_any-append (bytes_eq n) names (name ∷ []));
}
  where
    go : (o : Option ℕ) (b : Bool) → is_some (cond b (Some at) o) ≡ (is_some o || (b || false))
    go None true = refl
    go None false = refl
    go (Some k) true = refl
    go (Some k) false = refl

pub names_same : (old new : Names) (names : List (List ℕ)) → HasNames old names → AreSame old new → HasNames new names
names_same old new names h same = record { at = λ n. ap is_some (same n) ∙ h.at n }

-- what a map has under a name, and under others, once a name is put in
abbrev name_cmp : List ℕ → Vec ℕ Global → Ordering
name_cmp n k = slice_cmp nat_cmp n k.items

other_names : (bs cs : List ℕ) (old new : List (Vec ℕ Global × ℕ)) → KeepsOthers (eq_by_cmp (λ x y. slice_cmp nat_cmp x.items y.items)) (is_at (name_cmp bs)) old new → bytes_eq bs cs ≡ false
    → lookup (is_at (name_cmp cs)) new ≡ lookup (is_at (name_cmp cs)) old
unfolding KeepsOthers
other_names bs cs old new h e = h (is_at (name_cmp cs)) (λ x y. (eq_by_cmp_equiv nat_list_cmp_total).congr cs x.items y.items) apart
  where
    apart : (k : Vec ℕ Global) → is_at (name_cmp bs) k ≡ true → is_at (name_cmp cs) k ≡ false
    apart k t =
        let same : bs ≡ k.items = bytes_eq-same bs k.items (sym (is_eq-slice_cmp bs k.items) ∙ t) in
        is_eq-slice_cmp cs k.items ∙ bytes_eq-swap cs k.items ∙ subst (λ m. bytes_eq m cs ≡ false) same e

pub names_updated : (bs : List ℕ) (m n : BTreeMap (Vec ℕ Global) ℕ) (w : Option ℕ) → UpdatesBy (λ x y. slice_cmp nat_cmp x.items y.items) (name_cmp bs) m n w
    → (cs : List ℕ) → get_by (name_cmp cs) n ≡ cond (bytes_eq bs cs) w (get_by (name_cmp cs) m)
names_updated bs m n w h cs = elim (told (bytes_eq bs cs)) [
  | inl t ↦ subst (λ k. get_by (name_cmp k) n ≡ w) (bytes_eq-same bs cs t) h.1 ∙ sym (ap (λ b. cond b w (get_by (name_cmp cs) m)) t)
  | inr t ↦ other_names bs cs m.entries n.entries h.3 t ∙ sym (ap (λ b. cond b w (get_by (name_cmp cs) m)) t)
]

-- a list of the same names
pub names_moved : (t : Names) (names names' : List (List ℕ)) → HasNames t names → names ≡ names' → HasNames t names'
names_moved t names names' h e = subst (HasNames t) e h
