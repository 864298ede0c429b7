-- Parameters in order, by their places.
use Rattle.std.proofs.Common.{◌≡◌, ◌∙◌, ℕ, zero, suc, ◌+◌, ◌-◌, ◌<◌, ◌≤◌, Bool, true, false, ◌||◌, bytes_eq, List, [], ◌∷◌, ◌++◌, length, take, drop, slice_get, Option, None, Some, is_some, option_and_then, Ok, Err, refl, sym, ap, subst, arith}
use Rattle.std.specs.List.{AllByRecursion, list_any}
use Rattle.std.specs.Option.{option_or}
use Rattle.std.proofs.lemmas.List.{take-append-drop}
use Rattle.rdl_base.specs.declared.fault.Fault.{Fault}
use Rattle.rdl_base.specs.declared.rule.Rule.TheVariants as rules
use Rattle.rdl_tree.specs.declared.expr.Name.{Name}
use Rattle.rdl_tree.specs.declared.item.Param.{Param}
use Rattle.rdl_values.specs.Bodies.{Scope}
use Rattle.rdl_values.specs.Parameters.{Bound, bound_from, value_at}
use Rattle.rdl_values.specs.Uses.{Use}
use Rattle.rdl_values.specs.Values.{Val, entry_named, fails}
use Rattle.rdl_values.specs.Overlaid.{AreApart, HasThese, IsKept, IsUntouched, IsWalked, Plain, names_of, overlaid, plain_entry, plain_of, plain_value, stands_before, value_over}
use Rattle.rdl_values.proofs.Overlays.{named_new, named_over, none-named}
use Rattle.rdl_values.proofs.Plains.{plain-at, plain-length}
use Rattle.rdl_values.proofs.Steps.{front-apart, passed, put_over, twice_fails, untouched_passed}
use Rattle.plain_lemmas.proofs.Lists.{each-append, each-imp, list_any-append, some-at, take-all}

-- Lists at a place.

drop-at : {X : Type 0} (xs : List X) (k : ℕ) (x : X) → slice_get xs k ≡ Some x → drop k xs ≡ x ∷ drop (suc k) xs
drop-at [] k x e = cc
drop-at (y ∷ ys) zero x e = let same : y ≡ x = cc in ap (λ z. z ∷ ys) same
drop-at (y ∷ ys) (suc k) x e = drop-at ys k x e

pub take-at : {X : Type 0} (xs : List X) (k : ℕ) (x : X) → slice_get xs k ≡ Some x → take (suc k) xs ≡ take k xs ++ (x ∷ [])
take-at [] k x e = cc
take-at (y ∷ ys) zero x e = let same : y ≡ x = cc in ap (λ z. z ∷ []) same
take-at (y ∷ ys) (suc k) x e = ap (λ r. y ∷ r) (take-at ys k x e)

take-front : {X : Type 0} (xs : List X) (j m : ℕ) → j ≤ m → take j (take m xs) ≡ take j xs
take-front xs zero m l = refl
take-front xs (suc j) zero l = absurd (omega (arith, l))
take-front [] (suc j) (suc m) l = refl
take-front (x ∷ xs) (suc j) (suc m) l = ap (λ r. x ∷ r) (take-front xs j m (omega (arith, l)))

drop-past : {X : Type 0} (xs : List X) (k : ℕ) → length xs ≤ k → drop k xs ≡ []
drop-past [] zero l = refl
drop-past [] (suc k) l = refl
drop-past (x ∷ xs) zero l = absurd (omega (arith, l))
drop-past (x ∷ xs) (suc k) l = drop-past xs k (omega (arith, l))

none-front : {X : Type 0} (f : X → Bool) (xs ys : List X) → list_any f (xs ++ ys) ≡ false → list_any f xs ≡ false
none-front f xs ys e = go (list_any f xs) (list_any f ys) (sym (list_any-append f xs ys) ∙ e)
  where
    go : (b c : Bool) → (b || c) ≡ false → b ≡ false
    go true c h = cc
    go false c h = refl

none-back : {X : Type 0} (f : X → Bool) (xs ys : List X) → list_any f (xs ++ ys) ≡ false → list_any f ys ≡ false
none-back f xs ys e = go (list_any f xs) (list_any f ys) (sym (list_any-append f xs ys) ∙ e)
  where
    go : (b c : Bool) → (b || c) ≡ false → c ≡ false
    go true c h = cc
    go false c h = h

pub some_of : (o : Option Val) → is_some o ≡ true → (v : Val) × (o ≡ Some v)
some_of None h = cc
some_of (Some v) h = (v, refl)

-- A front of a list has no two of one name either.

front_none : (f : List ℕ × Option Val → Bool) (ys : Plain) (j : ℕ) → list_any f ys ≡ false → list_any f (take j ys) ≡ false
front_none f ys zero e = refl
front_none f [] (suc j) e = refl
front_none f (y ∷ ys) (suc j) e = go (f y) refl e (front_none f ys j)
  where
    go : (b : Bool) → f y ≡ b → (b || list_any f ys) ≡ false → (list_any f ys ≡ false → list_any f (take j ys) ≡ false) → (f y || list_any f (take j ys)) ≡ false
    go true q k r = cc
    go false q k r = rw q (r k)

pub apart_take : (xs : Plain) (k : ℕ) → AreApart xs → AreApart (take k xs)
apart_take xs zero h = tt
apart_take [] (suc k) h = tt
apart_take (x ∷ xs) (suc k) h = (front_none (λ y. bytes_eq y.0 x.0) xs k h.0, apart_take xs k h.1)

pub apart_front : (xs : Plain) (j m : ℕ) → j ≤ m → AreApart (take m xs) → AreApart (take j xs)
apart_front xs j m l h = subst AreApart (take-front xs j m l) (apart_take (take m xs) j h)

pub front_free : (ps : List Param) (upto k : ℕ) (p : Param) → AreApart (take upto (plain_of ps)) → k < upto → slice_get ps k ≡ Some p → stands_before (plain_of ps) k p.name.text.now ≡ false
front_free ps upto k p apart l here =
    let x = plain_entry (take k (plain_of ps)) p in
    let more : take (suc k) (plain_of ps) ≡ take k (plain_of ps) ++ (x ∷ []) = take-at (plain_of ps) k x (plain-at ps k p here) in
    front-apart (take k (plain_of ps)) x [] (subst AreApart more (apart_front (plain_of ps) (suc k) upto (omega (arith, l)) apart))

-- What is put over one leaves the others their values.

named-kept : {A : Type 0} (n : List ℕ) (t ys : List (List ℕ × A)) (w : A) → entry_named n t ≡ Some w → entry_named n (t ++ ys) ≡ Some w
named-kept n [] ys w e = cc
named-kept n (y ∷ t) ys w e = go (bytes_eq y.0 n) refl e (named-kept n t ys w)
  where
    go : (b : Bool) → bytes_eq y.0 n ≡ b → entry_named n (y ∷ t) ≡ Some w → (entry_named n t ≡ Some w → entry_named n (t ++ ys) ≡ Some w) → entry_named n (y ∷ (t ++ ys)) ≡ Some w
    go true q k r = let here : Some y.1 ≡ Some w = sym (rw q refl) ∙ k in rw q here
    go false q k r = let behind : entry_named n t ≡ Some w = sym (rw q refl) ∙ k in rw q (r behind)

some_kept : (o p x : Option Val) → ((w : Val) → o ≡ Some w → p ≡ Some w) → is_some (option_or o x) ≡ true → is_some (option_or p x) ≡ true
some_kept (Some w) p x k h = let e = k w refl in rw e refl
some_kept None None x k h = h
some_kept None (Some w) x k h = refl

valued_more : (xs : Plain) (t ys : Bound) → AllByRecursion (λ x. is_some (value_over t x) ≡ true) xs → AllByRecursion (λ x. is_some (value_over (t ++ ys) x) ≡ true) xs
valued_more xs t ys h = each-imp _ _ xs (λ x k. some_kept (entry_named x.0 t) (entry_named x.0 (t ++ ys)) x.1 (named-kept x.0 t ys) k) h

-- What is kept by what is put over the text has the same value here as by the text.
module _ (xs : Plain) (k : ℕ) (t : Bound) (apart : AreApart (take k xs)) where
  kept-here : (n : List ℕ) → IsKept xs t n → (v : Val) → entry_named n (overlaid (take k xs) []) ≡ Some v → entry_named n (overlaid (take k xs) t) ≡ Some v
  kept-here n kept v e = go (entry_named n (take k xs)) refl
    where
      go : (o : Option (Option Val)) → entry_named n (take k xs) ≡ o → entry_named n (overlaid (take k xs) t) ≡ Some v
      go None q = let no : None ≡ Some v = sym (named_over (take k xs) [] n apart ∙ ap (option_and_then (λ o. value_over [] (n, o))) q) ∙ e in cc
      go (Some o) q =
          let plain : o ≡ Some v = sym (named_over (take k xs) [] n apart ∙ ap (option_and_then (λ o. value_over [] (n, o))) q) ∙ e in
          let all : entry_named n xs ≡ Some (Some v) = ap (entry_named n) (sym (take-append-drop k xs)) ∙ named-kept n (take k xs) (drop k xs) (Some v) (q ∙ ap Some plain) in
          named_over (take k xs) t n apart ∙ ap (option_and_then (λ o. value_over t (n, o))) (q ∙ ap Some plain) ∙ over (entry_named n t) refl all
        where
          over : (w : Option Val) → entry_named n t ≡ w → entry_named n xs ≡ Some (Some v) → option_or (entry_named n t) (Some v) ≡ Some v
          over None r all = rw r refl
          over (Some w) r all = let same = kept w v r all in rw r (ap Some same)

  pub kept_here : (ns : List Name) → AllByRecursion (λ n. IsKept xs t n.text.now) ns → HasThese (overlaid (take k xs) []) (overlaid (take k xs) t) ns
  kept_here ns h = each-imp _ _ ns (λ n kept v e. kept-here n.text.now kept v e) h

module _ (u : Use) (scope : Scope) (ps : List Param) where
  pub started : IsWalked u scope ps 0 []
  started = record { all = refl; names = λ n h. refl; valued = tt }

  pub one_passed : (k : ℕ) (p : Param) (t : Bound) → AreApart (take k (plain_of ps)) → stands_before (plain_of ps) k p.name.text.now ≡ false → slice_get ps k ≡ Some p → IsUntouched u.args ps t k p → IsWalked u scope ps k t → IsWalked u scope ps (suc k) t
  one_passed k p t apart front here not w =
      let n = p.name.text.now in
      let has = some_of (plain_value (overlaid (take k (plain_of ps)) []) p) not.plain in
      let v = has.0 in
      let new : entry_named n t ≡ None = none-named n t (w.names n front) in
      let more : take (suc k) (plain_of ps) ≡ take k (plain_of ps) ++ ((n, Some v) ∷ []) = take-at (plain_of ps) k _ (plain-at ps k p here) ∙ ap (λ o. take k (plain_of ps) ++ ((n, o) ∷ [])) has.1 in
      let step = passed u scope ((p, Some v) ∷ []) (take k (plain_of ps)) t (drop (suc k) ps) (untouched_passed u scope (take k (plain_of ps)) t p v front not.none new (kept_here (plain_of ps) k t apart (names_of p.default) not.kept) has.1, tt) in
      let over : is_some (value_over t (n, Some v)) ≡ true = rw new refl in
      record {
        all = w.all ∙ ap (bound_from u scope (overlaid (take k (plain_of ps)) t)) (drop-at ps k p here) ∙ step ∙ ap (λ xs. bound_from u scope (overlaid xs t) (drop (suc k) ps)) (sym more);
        names = λ m h. w.names m (none-front (λ x. bytes_eq x.0 m) (take k (plain_of ps)) ((n, Some v) ∷ []) (ap (list_any (λ (x : List ℕ × Option Val). bytes_eq x.0 m)) (sym more) ∙ h));
        valued = subst (AllByRecursion (λ x. is_some (value_over t x) ≡ true)) (sym more) (each-append _ (take k (plain_of ps)) ((n, Some v) ∷ []) w.valued (over, tt));
      }

  pub one_put : (k : ℕ) (p : Param) (t : Bound) (v : Val) → stands_before (plain_of ps) k p.name.text.now ≡ false → slice_get ps k ≡ Some p → value_at u scope (overlaid (take k (plain_of ps)) t) p ≡ Ok v → IsWalked u scope ps k t → IsWalked u scope ps (k + 1) (t ++ ((p.name.text.now, v) ∷ []))
  one_put k p t v front here is w =
      let n = p.name.text.now in
      let o = plain_value (overlaid (take k (plain_of ps)) []) p in
      let over = t ++ ((n, v) ∷ []) in
      let more : take (suc k) (plain_of ps) ≡ take k (plain_of ps) ++ ((n, o) ∷ []) = take-at (plain_of ps) k (n, o) (plain-at ps k p here) in
      let step = put_over u scope (take k (plain_of ps)) t p o (drop (suc k) ps) v front (w.names n front) is in
      let named : entry_named n over ≡ Some v = named_new n v t [] (w.names n front) in
      let has : is_some (value_over over (n, o)) ≡ true = rw named refl in
      let next : suc k ≡ k + 1 = omega arith in
      subst (λ j. IsWalked u scope ps j over) next (record {
        all = w.all ∙ ap (bound_from u scope (overlaid (take k (plain_of ps)) t)) (drop-at ps k p here) ∙ step ∙ ap (λ xs. bound_from u scope (overlaid xs over) (drop (suc k) ps)) (sym more);
        names = λ m h.
            let all = ap (list_any (λ (x : List ℕ × Option Val). bytes_eq x.0 m)) (sym more) ∙ h in
            let left = w.names m (none-front (λ x. bytes_eq x.0 m) (take k (plain_of ps)) ((n, o) ∷ []) all) in
            let right : (bytes_eq n m || false) ≡ false = none-back (λ x. bytes_eq x.0 m) (take k (plain_of ps)) ((n, o) ∷ []) all in
            list_any-append (λ b. bytes_eq b.0 m) t ((n, v) ∷ []) ∙ ap (λ b. b || (bytes_eq n m || false)) left ∙ right;
        valued = subst (AllByRecursion (λ x. is_some (value_over over x) ≡ true)) (sym more) (each-append _ (take k (plain_of ps)) ((n, o) ∷ []) (valued_more (take k (plain_of ps)) t ((n, v) ∷ []) w.valued) (has, tt));
      })

  many_passed : (c k : ℕ) (t : Bound) → AreApart (take (k + c) (plain_of ps)) → k + c ≤ length ps → ((i : ℕ) (p : Param) → k ≤ i → i < k + c → slice_get ps i ≡ Some p → IsUntouched u.args ps t i p) → IsWalked u scope ps k t → IsWalked u scope ps (k + c) t
  many_passed zero k t apart l not w = let same : k ≡ k + 0 = omega arith in subst (λ j. IsWalked u scope ps j t) same w
  many_passed (suc c) k t apart l not w =
      let here = some-at ps k (omega (arith, l)) in
      let within : k < k + suc c = omega arith in
      let front = apart_front (plain_of ps) k (k + suc c) (omega arith) apart in
      let one = one_passed k here.0 t front (front_free ps (k + suc c) k here.0 apart within here.1) here.1 (not k here.0 (omega arith) within here.1) w in
      let same : suc k + c ≡ k + suc c = omega arith in
      subst (λ j. IsWalked u scope ps j t) same (many_passed c (suc k) t (subst (λ j. AreApart (take j (plain_of ps))) (sym same) apart) (omega (arith, l)) (λ i p a b e. not i p (omega (arith, a)) (omega (arith, b)) e) one)

  pub walked_on : (from upto : ℕ) (t : Bound) → AreApart (take upto (plain_of ps)) → from ≤ upto → upto ≤ length ps → ((k : ℕ) (p : Param) → from ≤ k → k < upto → slice_get ps k ≡ Some p → IsUntouched u.args ps t k p) → IsWalked u scope ps from t → IsWalked u scope ps upto t
  walked_on from upto t apart l m not w =
      let same : from + (upto - from) ≡ upto = omega (arith, l) in
      subst (λ j. IsWalked u scope ps j t) same (many_passed (upto - from) from t (subst (λ j. AreApart (take j (plain_of ps))) (sym same) apart) (omega (arith, l, m)) (λ i p a b e. not i p a (omega (arith, b, l)) e) w)

  pub one_failed : (k : ℕ) (p : Param) (t : Bound) (f : Fault) → slice_get ps k ≡ Some p → value_at u scope (overlaid (take k (plain_of ps)) t) p ≡ Err f → IsWalked u scope ps k t → bound_from u scope [] ps ≡ Err f
  one_failed k p t f here is w =
      let step : bound_from u scope (overlaid (take k (plain_of ps)) t) (p ∷ drop (suc k) ps) ≡ Err f = rw is refl in
      w.all ∙ ap (bound_from u scope (overlaid (take k (plain_of ps)) t)) (drop-at ps k p here) ∙ step

  pub one_twice : (k : ℕ) (p : Param) (t : Bound) → stands_before (plain_of ps) k p.name.text.now ≡ true → slice_get ps k ≡ Some p → IsWalked u scope ps k t → bound_from u scope [] ps ≡ fails rules.E6 p.name.place
  one_twice k p t taken here w =
      w.all ∙ ap (bound_from u scope (overlaid (take k (plain_of ps)) t)) (drop-at ps k p here) ∙ twice_fails u scope (take k (plain_of ps)) t p (drop (suc k) ps) w.valued taken

  pub all_walked : (k : ℕ) (t : Bound) → length ps ≤ k → IsWalked u scope ps k t → bound_from u scope [] ps ≡ Ok (overlaid (plain_of ps) t)
  all_walked k t l w =
      w.all ∙ ap (bound_from u scope (overlaid (take k (plain_of ps)) t)) (drop-past ps k l) ∙ ap (λ xs. Ok (overlaid xs t)) (take-all (plain_of ps) k (omega (arith, l, plain-length ps)))
