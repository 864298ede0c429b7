-- Sizes of arrays that are counted no further than a number, and rows by such sizes.
use Rattle.std.proofs.Common.{◌≡◌, ◌∙◌, ℕ, zero, suc, ◌+◌, ◌*◌, ◌/◌, ◌%◌, ◌<◌, ◌≤◌, Bool, true, false, nat_lt, List, [], ◌∷◌, ◌++◌, length, get_or, take, drop, min, refl, sym, ap, subst, arith, append_assoc, mod-eq_of_lt}
use Rattle.std.proofs.Math.Nat.{div-eq_of_lt, le-min, min-eq_left}
use Rattle.std.proofs.lemmas.Bool.{ltb-true, ltb-false}
use Rattle.std.proofs.lemmas.Nat.{div_below, mod_below}
use Rattle.std.proofs.lemmas.List.{at_drop_more, take_more}
use Rattle.plain_lemmas.proofs.Numbers.{below_times-positive as positive, min-right as below-or-most}
use Rattle.rdl_values.specs.Rows.{product, row}

pub product_push : (xs : List ℕ) (d : ℕ) → product (xs ++ (d ∷ [])) ≡ product xs * d
product_push [] d = omega arith
product_push (x ∷ xs) d = ap (λ p. x * p) (product_push xs d) ∙ assoc x (product xs) d
  where
    assoc : (a b c : ℕ) → a * (b * c) ≡ a * b * c
    assoc a b c = grind arith

pub size_more : (a d m : ℕ) → min (min a m * d) m ≡ min (a * d) m
size_more a zero m = let e : min a m * 0 ≡ 0 = omega arith in let f : a * 0 ≡ 0 = omega arith in ap (λ n. min n m) (e ∙ sym f)
size_more a (suc d) m = go (nat_lt m a) refl
  where
    go : (b : Bool) → nat_lt m a ≡ b → min (min a m * suc d) m ≡ min (a * suc d) m
    go false e = let l : a ≤ m = ltb-false m a e in ap (λ n. min (n * suc d) m) (min-eq_left l)
    go true e =
        let far : m < a = ltb-true m a e in
        let l : m ≤ a = omega (arith, far) in
        let big : m ≤ m * suc d = grind arith in
        let bigger : m ≤ a * suc d = grind arith in
        ap (λ n. min (n * suc d) m) (below-or-most a m l) ∙ below-or-most (m * suc d) m big ∙ sym (below-or-most (a * suc d) m bigger)

pub quotient : (k p m : ℕ) → k < m → k / min p m ≡ k / p
quotient k p m l = go (nat_lt m p) refl
  where
    go : (b : Bool) → nat_lt m p ≡ b → k / min p m ≡ k / p
    go false e = let h : p ≤ m = ltb-false m p e in ap (λ n. k / n) (min-eq_left h)
    go true e =
        let over : m < p = ltb-true m p e in
        let h : m ≤ p = omega (arith, over) in
        let far : k < p = omega (arith, l, h) in
        ap (λ n. k / n) (below-or-most p m h) ∙ div-eq_of_lt l ∙ sym (div-eq_of_lt far)

pub rest : (k p m : ℕ) → k < m → k % min p m ≡ k % p
rest k p m l = go (nat_lt m p) refl
  where
    go : (b : Bool) → nat_lt m p ≡ b → k % min p m ≡ k % p
    go false e = let h : p ≤ m = ltb-false m p e in ap (λ n. k % n) (min-eq_left h)
    go true e =
        let over : m < p = ltb-true m p e in
        let h : m ≤ p = omega (arith, over) in
        let far : k < p = omega (arith, l, h) in
        ap (λ n. k % n) (below-or-most p m h) ∙ mod-eq_of_lt l ∙ sym (mod-eq_of_lt far)

-- Dimension by dimension.

pub size_step : (dims : List ℕ) (at m : ℕ) (size : ℕ) → at < length dims → size ≡ min (product (take at dims)) m → min (size * get_or dims at 0) m ≡ min (product (take (at + 1) dims)) m
size_step dims at m size l h =
    let next = ap product (take_more dims at 0 l) ∙ product_push (take at dims) (get_or dims at 0) in
    ap (λ n. min (n * get_or dims at 0) m) h ∙ size_more (product (take at dims)) (get_or dims at 0) m ∙ ap (λ n. min n m) (sym next)

-- Row by row, where some of the indices are there and the number is left behind them.
module _ (dims : List ℕ) (at : ℕ) (l : at < length dims) (left m : ℕ) (small : left < m) (within : left < product (drop at dims)) where
  abbrev dim : ℕ
  dim = get_or dims at 0

  abbrev behind : List ℕ
  behind = drop (at + 1) dims

  dropped : {Y : Type 0} (f : List ℕ → Y) → f (drop at dims) ≡ f (dim ∷ behind)
  dropped f = at_drop_more f dims at 0 l

  is-below : left < dim * product behind
  is-below = subst (λ n. left < n) (dropped product) within

  pub some_behind : 0 < product behind
  some_behind = positive dim (product behind) left is-below

  pub index_below : left / min (product behind) m < dim
  index_below = subst (λ q. q < dim) (sym (quotient left (product behind) m small)) (div_below left (product behind) dim some_behind is-below)

  pub rest_below : left % min (product behind) m < product behind
  rest_below = subst (λ q. q < product behind) (sym (rest left (product behind) m small)) (mod_below left (product behind) some_behind)

  pub row_step : (items : List ℕ) (number : ℕ) → items ++ row (drop at dims) left ≡ row dims number → (items ++ (left / min (product behind) m ∷ [])) ++ row behind (left % min (product behind) m) ≡ row dims number
  row_step items number h =
      append_assoc items (left / min (product behind) m ∷ []) (row behind (left % min (product behind) m))
      ∙ ap (λ q. items ++ q ∷ row behind (left % min (product behind) m)) (quotient left (product behind) m small)
      ∙ ap (λ r. items ++ left / product behind ∷ row behind r) (rest left (product behind) m small)
      ∙ sym (dropped (λ ds. items ++ row ds left))
      ∙ h

  pub some_size : (size : ℕ) → size ≡ min (product behind) m → 0 < size
  some_size size e = subst (λ n. 0 < n) (sym e) (le-min {k = 1} (omega (arith, some_behind)) (omega (arith, small)))
