-- All values of a use, by those that it touches.
use Rattle.std.proofs.Common.{◌≡◌, ◌∙◌, ◌⊎◌, inl, inr, ℕ, zero, suc, ◌≤◌, Bool, true, false, bytes_eq, List, [], ◌∷◌, ◌++◌, length, take, drop, slice_get, Option, None, Some, is_some, Ok, refl, sym, ap, subst, arith, append_assoc, append-nil}
use Rattle.std.specs.List.{AllByRecursion, list_any}
use Rattle.rdl_tree.specs.declared.item.Param.{Param}
use Rattle.rdl_values.specs.Bodies.{Closure, Scope}
use Rattle.rdl_values.specs.Parameters.{Bound, bound_from, bound_of, value_at}
use Rattle.rdl_values.specs.Uses.{Use}
use Rattle.rdl_values.specs.Values.{Val, entry_named}
use Rattle.rdl_values.specs.Overlaid.{AreApart, HasTouched, IsUntouched, Plain, names_of, overlaid, plain_of, plain_value, stands_before, value_over}
use Rattle.rdl_values.proofs.Growing.{then_ok, untouched_value}
use Rattle.rdl_values.proofs.Keeping.{apart_more}
use Rattle.rdl_values.proofs.Overlays.{free_at, named_new}
use Rattle.rdl_values.proofs.Plains.{plain-at, plain-length}
use Rattle.rdl_values.proofs.Steps.{any-over, none-over, over-behind}
use Rattle.rdl_values.proofs.Walking.{kept_here, some_of, take-at}
use Rattle.plain_lemmas.proofs.Lists.{each-append, take-all}

drop-none : {X : Type 0} (xs : List X) (k : ℕ) → drop k xs ≡ [] → length xs ≤ k
drop-none [] k e = omega arith
drop-none (x ∷ xs) zero e = cc
drop-none (x ∷ xs) (suc k) e = let l = drop-none xs k e in omega (arith, l)

drop-head : {X : Type 0} (xs : List X) (k : ℕ) (y : X) (ys : List X) → drop k xs ≡ y ∷ ys → (slice_get xs k ≡ Some y) × (drop (suc k) xs ≡ ys)
drop-head [] zero y ys e = cc
drop-head [] (suc k) y ys e = cc
drop-head (x ∷ xs) zero y ys e = let same : x ≡ y = cc in let rest : xs ≡ ys = cc in (ap Some same, rest)
drop-head (x ∷ xs) (suc k) y ys e = drop-head xs k y ys e

module _ (u : Use) (scope : Scope) (all : Bound) where
  grown-from : (qs : List Param) (bound : Bound) → bound_from u scope bound qs ≡ Ok all → (rest : Bound) × (all ≡ bound ++ rest)
  grown-from [] bound e = let one : bound ≡ all = cc in ([], sym one ∙ sym (append-nil bound))
  grown-from (q ∷ qs) bound e =
      let n = q.name.text.now in
      let one = then_ok (value_at u scope bound q) (λ v. bound_from u scope (bound ++ ((n, v) ∷ [])) qs) all e in
      let more = grown-from qs (bound ++ ((n, one.0) ∷ [])) one.2 in
      (((n, one.0) ∷ []) ++ more.0, more.1 ∙ append_assoc bound ((n, one.0) ∷ []) more.0)

-- the parameters in front of a place have their values, which are those of the text with these put over them
record AreOver (ps : List Param) (touched : Bound) (k : ℕ) (bound : Bound) : Type 0 where
  is : bound ≡ overlaid (take k (plain_of ps)) touched
  apart : AreApart (take k (plain_of ps))
  valued : AllByRecursion (λ x. is_some (value_over touched x) ≡ true) (take k (plain_of ps))

module _ (u : Use) (scope : Scope) (ps : List Param) (all touched : Bound) (h : HasTouched u.args ps all touched) where
  over_from : (qs : List Param) (k : ℕ) (bound : Bound) → drop k ps ≡ qs → AreOver ps touched k bound → bound_from u scope bound qs ≡ Ok all → all ≡ overlaid (plain_of ps) touched
  over_from [] k bound e r is =
      let one : bound ≡ all = cc in
      let size = drop-none ps k e in
      sym one ∙ r.is ∙ ap (λ xs. overlaid xs touched) (take-all (plain_of ps) k (omega (arith, size, plain-length ps)))
  over_from (p ∷ qs) k bound e r is =
      let n = p.name.text.now in
      let front = take k (plain_of ps) in
      let o = plain_value (overlaid front []) p in
      let one = then_ok (value_at u scope bound p) (λ v. bound_from u scope (bound ++ ((n, v) ∷ [])) qs) all is in
      let v = one.0 in
      let at = drop-head ps k p qs e in
      let free = free_at u scope bound p v one.1 in
      let new : list_any (λ x. bytes_eq x.0 n) front ≡ false = sym (any-over front touched n r.valued) ∙ ap (list_any (λ (b : List ℕ × Val). bytes_eq b.0 n)) (sym r.is) ∙ free in
      let rest = grown-from u scope all qs (bound ++ ((n, v) ∷ [])) one.2 in
      let here : entry_named n all ≡ Some v = ap (entry_named n) (rest.1 ∙ append_assoc bound ((n, v) ∷ []) rest.0) ∙ named_new n v bound rest.0 free in
      let over = over_is (h.all k p at.0) v one.1 here new (entry_named n touched) refl in
      let more : take (suc k) (plain_of ps) ≡ front ++ ((n, o) ∷ []) = take-at (plain_of ps) k (n, o) (plain-at ps k p at.0) in
      let has : is_some (value_over touched (n, o)) ≡ true = ap is_some over in
      over_from qs (suc k) (bound ++ ((n, v) ∷ [])) at.1 (record {
        is = ap (λ b. b ++ ((n, v) ∷ [])) r.is ∙ sym (over-behind front n o touched v over) ∙ ap (λ xs. overlaid xs touched) (sym more);
        apart = subst AreApart (sym more) (apart_more front n o r.apart new);
        valued = subst (AllByRecursion (λ x. is_some (value_over touched x) ≡ true)) (sym more) (each-append _ front ((n, o) ∷ []) r.valued (has, tt));
      }) one.2
    where
      over_is : ((entry_named p.name.text.now touched ≡ entry_named p.name.text.now all) ⊎ IsUntouched u.args ps touched k p) → (v : Val) → value_at u scope bound p ≡ Ok v → entry_named p.name.text.now all ≡ Some v
          → list_any (λ x. bytes_eq x.0 p.name.text.now) (take k (plain_of ps)) ≡ false → (t : Option Val) → entry_named p.name.text.now touched ≡ t → value_over touched (p.name.text.now, plain_value (overlaid (take k (plain_of ps)) []) p) ≡ Some v
      over_is (inl same) v given here new t q = let there : entry_named p.name.text.now touched ≡ Some v = same ∙ here in rw there refl
      over_is (inr not) v given here new (Some w) q = let one : Some w ≡ Some v = sym (h.same p.name.text.now w q) ∙ here in rw q one
      over_is (inr not) v given here new None q =
          let front = take k (plain_of ps) in
          let has = some_of (plain_value (overlaid front []) p) not.plain in
          let passed = untouched_value u scope (overlaid front []) (overlaid front touched) p has.0 (none-over front touched p.name.text.now new) not.none (kept_here (plain_of ps) k touched r.apart (names_of p.default) not.kept) has.1 in
          let one : Ok has.0 ≡ Ok v = sym passed ∙ ap (λ b. value_at u scope b p) (sym r.is) ∙ given in
          let same : has.0 ≡ v = cc in
          rw q (has.1 ∙ ap Some same)

pub overlaid_all : (u : Use) (c : Closure) (bound touched : Bound) → bound_of u c ≡ Ok bound → HasTouched u.args c.def.params.now bound touched → bound ≡ overlaid (plain_of c.def.params.now) touched
overlaid_all u c bound touched e h = over_from u c.scope c.def.params.now bound touched h c.def.params.now 0 [] refl (record { is = refl; apart = tt; valued = tt }) e
