-- The parameters that are due, as one after the other is bound.
use Rattle.std.proofs.Common.{◌≡◌, ◌∙◌, ℕ, zero, suc, ◌+◌, ◌<◌, ◌≤◌, Bool, true, false, ◌&&◌, ◌||◌, bytes_eq, List, [], ◌∷◌, ◌++◌, map, take, slice_get, unwrap_or, option_map, option_and_then, Option, None, Some, refl, sym, ap, subst, arith}
use Rattle.std.specs.List.{AllByRecursion, list_any, position_from}
use Rattle.std.proofs.lemmas.Bool.{eq-eqb, or_parts}
use Rattle.rdl_tree.specs.declared.expr.Name.{Name}
use Rattle.rdl_tree.specs.declared.item.Param.{Param}
use Rattle.rdl_values.specs.Changed.{is_changed}
use Rattle.rdl_values.specs.Overlaid.{AreApart, IsKept, IsUntouched, Plain, names_of, overlaid, plain_of, plain_value, stands_before}
use Rattle.rdl_values.specs.Parameters.{Bound}
use Rattle.rdl_values.specs.Places.{has_place, is_found}
use Rattle.rdl_values.specs.Readers.{is_meant, is_reader}
use Rattle.rdl_values.specs.Values.{Val, entry_named}
use Rattle.rdl_values.specs.declared.places.Places.{Places}
use Rattle.rdl_values.proofs.Changing.{unchanged_is}
use Rattle.rdl_values.proofs.Overlays.{named_new}
use Rattle.rdl_values.proofs.Plains.{plain-at, plain-names, plain-take}
use Rattle.rdl_values.proofs.Walking.{front_free}
use Rattle.rdl_tree.specs.declared.item.Arg.{Arg}
use Rattle.rdl_uses.specs.Arguments.{AreDue, ArePlain}
use Rattle.rdl_uses.proofs.Touching.{place-own}
use Rattle.plain_lemmas.proofs.Lists.{bytes_eq-itself, bytes_eq-same, each-imp}

each_of : {X : Type 0} (P : X → Type 0) → ((x : X) → P x) → (xs : List X) → AllByRecursion P xs
each_of P h [] = tt
each_of P h (x ∷ xs) = (h x, each_of P h xs)

-- nothing is put over the text
pub due_none : (ps : List Param) (due : Places) → AreDue ps [] due 0
due_none ps due k p l here not = each_of _ (λ n w v e q. cc) (names_of p.default)

pub due_on : (ps : List Param) (t : Bound) (due : Places) (from at : ℕ) → from ≤ at → AreDue ps t due from → AreDue ps t due at
due_on ps t due from at l h k p m here not = h k p (omega (arith, l, m)) here not

-- what is passed over is not touched
pub untouched_between : (args : List Arg) (ps : List Param) (t : Bound) (due : Places) (from upto : ℕ) → AreDue ps t due from → ArePlain args ps due from upto → (k : ℕ) (p : Param) → from ≤ k → k < upto → slice_get ps k ≡ Some p → IsUntouched args ps t k p
untouched_between args ps t due from upto h plain k p l m here =
    let one = plain k p l m here in
    record { none = one.none; plain = one.plain; kept = h k p l here one.not_due }

-- Lists at places.

take-front : {X : Type 0} (xs : List X) (j m : ℕ) → j ≤ m → take j (take m xs) ≡ take j xs
take-front xs zero m l = refl
take-front xs (suc j) zero l = absurd (omega (arith, l))
take-front [] (suc j) (suc m) l = refl
take-front (x ∷ xs) (suc j) (suc m) l = ap (λ r. x ∷ r) (take-front xs j m (omega (arith, l)))

in-front : {X : Type 0} (xs : List X) (u k : ℕ) → k < u → slice_get (take u xs) k ≡ slice_get xs k
in-front xs zero k l = absurd (omega (arith, l))
in-front [] (suc u) k l = refl
in-front (x ∷ xs) (suc u) zero l = refl
in-front (x ∷ xs) (suc u) (suc k) l = in-front xs u k (omega (arith, l))

-- one more that is put over the text leaves the others
others-kept : (t : Bound) (n m : List ℕ) (v : Val) → bytes_eq n m ≡ false → entry_named m (t ++ ((n, v) ∷ [])) ≡ entry_named m t
others-kept [] n m v e = rw e refl
others-kept (y ∷ t) n m v e = go (bytes_eq y.0 m) refl (others-kept t n m v e)
  where
    go : (b : Bool) → bytes_eq y.0 m ≡ b → entry_named m (t ++ ((n, v) ∷ [])) ≡ entry_named m t → entry_named m (y ∷ (t ++ ((n, v) ∷ []))) ≡ entry_named m (y ∷ t)
    go true q r = rw q refl
    go false q r = rw q r

-- a parameter whose name does not stand before is meant by its name
entry-own : (n : List ℕ) (o : Option Val) (xs : Plain) (k : ℕ) → slice_get xs k ≡ Some (n, o) → stands_before xs k n ≡ false → entry_named n xs ≡ Some o
entry-own n o [] k e h = cc
entry-own n o (x ∷ xs) zero e h =
    let same : x ≡ (n, o) = cc in
    let here : bytes_eq x.0 n ≡ true = ap (λ (y : List ℕ × Option Val). bytes_eq y.0 n) same ∙ bytes_eq-itself n in
    let value : x.1 ≡ o = ap (λ (y : List ℕ × Option Val). y.1) same in
    rw here (ap Some value)
entry-own n o (x ∷ xs) (suc k) e h =
    let parts = or_parts (bytes_eq x.0 n) (stands_before xs k n) h in
    let other = parts.0 in
    rw other (entry-own n o xs k e parts.1)

module _ (ps : List Param) (upto at : ℕ) (p : Param) (apart : AreApart (take upto (plain_of ps))) (l : at < upto) (here : slice_get ps at ≡ Some p) where
  abbrev m : List ℕ
  m = p.name.text.now

  abbrev o : Option Val
  o = plain_value (overlaid (take at (plain_of ps)) []) p

  own : stands_before (plain_of ps) at m ≡ false
  own = front_free ps upto at p apart l here

  -- a name that means it, behind it
  meant-behind : (k : ℕ) → at < k → (n : Name) → bytes_eq m n.text.now ≡ true → is_meant (take k ps) at n ≡ true
  meant-behind k b n e =
      let same : m ≡ n.text.now = bytes_eq-same m n.text.now e in
      let front : map (λ x. x.0) (take k (plain_of ps)) ≡ map (λ q. q.name.text.now) (take k ps) = ap (map (λ x. x.0)) (plain-take ps k) ∙ plain-names (take k ps) in
      let there = in-front (plain_of ps) k at b ∙ plain-at ps at p here in
      let before : stands_before (take k (plain_of ps)) at m ≡ false = ap (list_any (λ (x : List ℕ × Option Val). bytes_eq x.0 m)) (take-front (plain_of ps) at k (omega (arith, b))) ∙ own in
      let first : position_from (λ j. bytes_eq j m) 0 (map (λ q. q.name.text.now) (take k ps)) ≡ Some at =
      ap (position_from (λ j. bytes_eq j m) 0) (sym front) ∙ place-own m o 0 (take k (plain_of ps)) at there before ∙ (let zero-more : 0 + at ≡ at = omega arith in ap Some zero-more) in
      ap (λ i. is_found (position_from (λ j. bytes_eq j i) 0 (map (λ q. q.name.text.now) (take k ps))) at) (sym same) ∙ ap (λ i. is_found i at) first ∙ eq-eqb at at refl

  module _ (t : Bound) (v : Val) (new : list_any (λ b. bytes_eq b.0 m) t ≡ false) where
    -- what is named keeps its value where this one is another, or has that of the text
    kept-other : (n : List ℕ) → bytes_eq m n ≡ false → IsKept (plain_of ps) t n → IsKept (plain_of ps) (t ++ ((m, v) ∷ [])) n
    kept-other n e h w x put plain = h w x (sym (others-kept t m n v e) ∙ put) plain

    kept-same : is_changed o v ≡ false → (n : List ℕ) → IsKept (plain_of ps) t n → IsKept (plain_of ps) (t ++ ((m, v) ∷ [])) n
    kept-same not n h = go (bytes_eq m n) refl
      where
        go : (b : Bool) → bytes_eq m n ≡ b → IsKept (plain_of ps) (t ++ ((m, v) ∷ [])) n
        go false e w x put plain = kept-other n e h w x put plain
        go true e w x put plain =
            let same : m ≡ n = bytes_eq-same m n e in
            let value : Some v ≡ Some w = sym (named_new m v t [] new) ∙ ap (λ i. entry_named i (t ++ ((m, v) ∷ []))) same ∙ put in
            let by : Some o ≡ Some (Some x) = sym (entry-own m o (plain_of ps) at (plain-at ps at p here) own) ∙ ap (λ i. entry_named i (plain_of ps)) same ∙ plain in
            let text : o ≡ Some x = cc in
            let is : v ≡ w = cc in
            sym is ∙ unchanged_is o v not x text

    not-meant : (k : ℕ) → at < k → (ns : List Name) → list_any (is_meant (take k ps) at) ns ≡ false → AllByRecursion (λ n. IsKept (plain_of ps) t n.text.now) ns → AllByRecursion (λ n. IsKept (plain_of ps) (t ++ ((m, v) ∷ [])) n.text.now) ns
    not-meant k b [] h kept = tt
    not-meant k b (n ∷ ns) h kept =
        let parts = or_parts (is_meant (take k ps) at n) (list_any (is_meant (take k ps) at) ns) h in
        (go (bytes_eq m n.text.now) refl parts.0, not-meant k b ns parts.1 kept.1)
      where
        go : (c : Bool) → bytes_eq m n.text.now ≡ c → is_meant (take k ps) at n ≡ false → IsKept (plain_of ps) (t ++ ((m, v) ∷ [])) n.text.now
        go false e f = kept-other n.text.now e kept.0
        go true e f = let no : true ≡ false = sym (meant-behind k b n e) ∙ f in cc

    -- one more is bound, and where it has another value than by the text its readers are due
    pub due_put : (due next : Places) → ((k : ℕ) → has_place next k ≡ ((is_changed (option_and_then (λ x. x.1) (slice_get (plain_of ps) at)) v && is_reader ps at k) || has_place due k)) → AreDue ps t due at → AreDue ps (t ++ ((m, v) ∷ [])) next (at + 1)
    due_put due next put h k q b there not =
        let parts = or_parts (is_changed (option_and_then (λ x. x.1) (slice_get (plain_of ps) at)) v && is_reader ps at k) (has_place due k) (sym (put k) ∙ not) in
        let kept = h k q (omega (arith, b)) there parts.1 in
        let changed : (is_changed o v && is_reader ps at k) ≡ false = ap (λ (x : Option (List ℕ × Option Val)). is_changed (option_and_then (λ y. y.1) x) v && is_reader ps at k) (sym (plain-at ps at p here)) ∙ parts.0 in
        go (is_changed o v) refl changed kept
      where
        reader-is : is_reader ps at k ≡ list_any (is_meant (take k ps) at) (names_of q.default)
        reader-is = ap (λ (x : Option Param). unwrap_or (option_map (λ r. list_any (is_meant (take k ps) at) (names_of r.default)) x) false) there

        go : (c : Bool) → is_changed o v ≡ c → (c && is_reader ps at k) ≡ false → AllByRecursion (λ n. IsKept (plain_of ps) t n.text.now) (names_of q.default) → AllByRecursion (λ n. IsKept (plain_of ps) (t ++ ((m, v) ∷ [])) n.text.now) (names_of q.default)
        go false e f kept = each-imp _ _ (names_of q.default) (λ n. kept-same e n.text.now) kept
        go true e f kept = not-meant k (omega (arith, b)) (names_of q.default) (sym reader-is ∙ f) kept
