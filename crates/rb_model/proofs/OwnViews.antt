-- A field has one view of its own.
use Rattle.std.proofs.Common.{◌≡◌, ℕ, zero, suc, ◌+◌, ◌<◌, ◌==◌, Bool, true, false, not, ◌&&◌, cond, Option, Some, None, List, [], ◌∷◌, length, slice_get, filter, count_by, refl, ap, sym, ◌∙◌, append-nil, map, get_or, ◌++◌, arith}
use Rattle.std.specs.Prelude.{IsTrue}
use Rattle.std.specs.Option.{option_map_or}
use Rattle.std.proofs.lemmas.List.Sums.{length-filter}
use Rattle.std.proofs.lemmas.Option.{same_Some}
use Rattle.std.proofs.lemmas.Bool.{eqb-true, eq-eqb}
use Rattle.std.specs.List.{flat_map, enumerate_from}
use Rattle.rb_model.specs.declared.block.Block.{Block}
use Rattle.rb_model.specs.declared.block.Field.{Field}
use Rattle.rb_model.specs.declared.block.View.{View}
use Rattle.std.proofs.lemmas.Option.{slice_get_within}
use Rattle.rb_model.specs.References.{Each}
use Rattle.rb_model.specs.SoundField.{FieldIsSoundIn}
use Rattle.rb_model.specs.Sound.{IsSound, ViewIsSound}
use Rattle.rb_model.proofs.Eachs.{Each-weaker, Each-from_zero}
use Rattle.std.proofs.lemmas.Option.{get_or_from_slice_get}
use Rattle.rb_model.proofs.PortLists.{outlets_numbered}
use Rattle.rb_model.specs.Ports.{view_pins, field_pins, field_ports, field_outlets, input, output}
use Rattle.rb_model.specs.Own.{IsOwnView, own_pins, outlet_ports}

pub by_cases : {G : Type 0} (c : Bool) → (c ≡ true → G) → (c ≡ false → G) → G
by_cases true f g = f refl
by_cases false f g = g refl

pub none_within : {X : Type 0} (xs : List X) (k : ℕ) → k < length xs → slice_get xs k ≡ None → ⊥
none_within [] k h e = absurd (omega arith)
none_within (x ∷ xs) zero h e = cc
none_within (x ∷ xs) (suc k) h e = none_within xs k (omega arith) e

-- the one element that passes
pub record TheOne {X : Type 0} (p : X → Bool) (xs : List X) : Type 0 where
  pub at : ℕ
  pub it : X
  pub here : slice_get xs at ≡ Some it
  pub passes : p it ≡ true

yes : {X : Type 0} (p : X → Bool) (x : X) (xs : List X) → p x ≡ true → filter p (x ∷ xs) ≡ x ∷ filter p xs
yes p x xs t = ap (λ c. cond c (x ∷ filter p xs) (filter p xs)) t

no : {X : Type 0} (p : X → Bool) (x : X) (xs : List X) → p x ≡ false → filter p (x ∷ xs) ≡ filter p xs
no p x xs t = ap (λ c. cond c (x ∷ filter p xs) (filter p xs)) t

some_passes : {X : Type 0} (p : X → Bool) (xs : List X) → 0 < length (filter p xs) → TheOne p xs
some_passes p [] h = absurd (omega arith)
some_passes p (x ∷ xs) h = by_cases (p x)
    (λ t. record { at = 0; it = x; here = refl; passes = t })
    (λ t. let r : TheOne p xs = some_passes p xs (omega (arith, ap length (no p x xs t))) in record { at = suc r.at; it = r.it; here = r.here; passes = r.passes })

pub one_passes : {X : Type 0} (p : X → Bool) (xs : List X) → count_by p xs ≡ 1 → TheOne p xs
one_passes p xs e = some_passes p xs (omega (arith, length-filter p xs))

empty : {X : Type 0} (xs : List X) → length xs ≡ 0 → xs ≡ []
empty [] e = refl
empty (x ∷ xs) e = absurd (omega arith)

none_left : {X : Type 0} (p : X → Bool) (xs : List X) → filter p xs ≡ [] → (j : ℕ) (x : X) → slice_get xs j ≡ Some x → p x ≡ true → ⊥
none_left p [] n j x here t = cc
none_left p (y ∷ ys) n zero x here t = let q : y ∷ filter p ys ≡ [] = sym (yes p y ys (ap p (same_Some y x here) ∙ t)) ∙ n in cc
none_left p (y ∷ ys) n (suc j) x here t = by_cases (p y)
    (λ u. let q : y ∷ filter p ys ≡ [] = sym (yes p y ys u) ∙ n in cc)
    (λ u. none_left p ys (sym (no p y ys u) ∙ n) j x here t)

filter_at : {X : Type 0} (p : X → Bool) (xs : List X) (j : ℕ) (x : X) → length (filter p xs) ≡ 1 → slice_get xs j ≡ Some x → p x ≡ true → filter p xs ≡ x ∷ []
filter_at p [] j x e here t = cc
filter_at p (y ∷ ys) zero x e here t =
    let q : y ≡ x = same_Some y x here in
    let u : filter p (y ∷ ys) ≡ y ∷ filter p ys = yes p y ys (ap p q ∙ t) in
    let n : filter p ys ≡ [] = empty (filter p ys) (omega (arith, ap length u)) in
    u ∙ ap (λ zs. y ∷ zs) n ∙ ap (λ z. z ∷ []) q
filter_at p (y ∷ ys) (suc j) x e here t = by_cases (p y)
    (λ u. let n : filter p ys ≡ [] = empty (filter p ys) (omega (arith, ap length (yes p y ys u))) in absurd (none_left p ys n j x here t))
    (λ u. no p y ys u ∙ filter_at p ys j x (sym (ap length (no p y ys u)) ∙ e) here t)

-- the one that passes is all that is left
pub filter_one : {X : Type 0} (p : X → Bool) (xs : List X) (j : ℕ) (x : X) → count_by p xs ≡ 1 → slice_get xs j ≡ Some x → p x ≡ true → filter p xs ≡ x ∷ []
filter_one p xs j x e = filter_at p xs j x (length-filter p xs ∙ e)

pub both_true : (a b : Bool) → (a && b) ≡ true → (a ≡ true) × (b ≡ true)
both_true true b h = (refl, h)
both_true false b h = cc

pub not_true : (a : Bool) → not a ≡ true → a ≡ false
not_true true h = cc
not_true false h = refl

-- what a test of a field's own view says
pub own_test : (k : ℕ) (v : View) → (v.field == k && not v.alias) ≡ true → (v.field ≡ k) × (v.alias ≡ false)
own_test k v h = let b : ((v.field == k) ≡ true) × (not v.alias ≡ true) = both_true (v.field == k) (not v.alias) h in (eqb-true v.field k b.0, not_true v.alias b.1)

-- so its pins are those of that view among all
pub field_pins-own : (views : List View) (k : ℕ) (f : Field) (j : ℕ) (own : IsOwnView views k j) → count_by (λ v. v.field == k && not v.alias) views ≡ 1 → field_pins views (k, f) ≡ own_pins f own.view
field_pins-own views k f j own one =
    let passes : (own.view.field == k && not own.view.alias) ≡ true = rw (eq-eqb own.view.field k own.of, own.alone) refl in
    let only : filter (λ v. v.field == k && not v.alias) views ≡ own.view ∷ [] = filter_one (λ v. v.field == k && not v.alias) views j own.view one own.here passes in
    let gates : flat_map view_pins (filter (λ v. v.field == k && not v.alias) views) ≡ view_pins own.view = ap (flat_map view_pins) only ∙ append-nil (view_pins own.view) in
    rw gates refl

-- in a sound block each view is one of a field's, and each field has one of its own
pub views_in_range : (b : Block) → IsSound b → Each (λ v. v.field < length b.fields) b.views
views_in_range b sound = numbered b.views 0 (Each-weaker (ViewIsSound b) (λ v. v.1.field < length b.fields) (λ v s. slice_get_within b.fields v.1.field s.of.0 s.of.1) (enumerate_from 0 b.views) sound.views)
  where
    numbered : (vs : List View) (n : ℕ) → Each (λ v. v.1.field < length b.fields) (enumerate_from n vs) → Each (λ v. v.field < length b.fields) vs
    numbered [] n h = tt
    numbered (v ∷ vs) n h = (h.0, numbered vs (n + 1) h.1)

pub one_own : (b : Block) → IsSound b → (k : ℕ) → k < length b.fields → count_by (λ v. v.field == k && not v.alias) b.views ≡ 1
one_own b sound k below = by (slice_get b.fields k) refl
  where
    by : (o : Option Field) → slice_get b.fields k ≡ o → count_by (λ v. v.field == k && not v.alias) b.views ≡ 1
    by None e = absurd (none_within b.fields k below e)
    by (Some f) e = let s : FieldIsSoundIn b (k, f) = Each-from_zero (FieldIsSoundIn b) b.fields k f sound.fields e in s.one_view

-- and its ports the pins and outputs of the view that was read there
pub field_ports-own : (views : List View) (k : ℕ) (f : Field) (j : ℕ) → IsOwnView views k j → count_by (λ v. v.field == k && not v.alias) views ≡ 1 → (v : View) → v ≡ get_or views j v
    → field_ports views (k, f) ≡ map input (own_pins f v) ++ outlet_ports f
field_ports-own views k f j own one v e =
    let same : v ≡ own.view = e ∙ get_or_from_slice_get views j own.view v own.here in
    let pins : field_pins views (k, f) ≡ own_pins f v = field_pins-own views k f j own one ∙ ap (own_pins f) (sym same) in
    let outs : map output (field_outlets (k, f)) ≡ outlet_ports f = outlets_numbered k f in
    rw (pins, outs) refl
