-- The values of an arrangement are those of the operations that it was made of.
use Rattle.std.specs.List.{AllZip, list_all}
use Rattle.std.proofs.Common.{◌≡◌, ℕ, zero, suc, ◌+◌, ◌<◌, ◌≤◌, ◌/◌, ◌%◌, ◌^◌, Bool, true, false, ◌&&◌, nat_lt, List, [], ◌∷◌, ◌++◌, length, get_or, refl, ap, sym, ◌∙◌, length-append, ◌⊎◌, inl, inr, arith}
use Rattle.std.proofs.Math.Nat.{eq-or-lt_of_le}
use Rattle.std.proofs.Math.Seq.{get_or-append_seam}
use Rattle.std.proofs.lemmas.List.{get_or_append_left}
use Rattle.v_design.specs.Expr.{value_under}
use Rattle.cyc_sim.specs.declared.arrangement.Arrangement.{Arrangement}
use Rattle.sim_lanes.specs.declared.narrow.NarrowOperation.{NarrowOperation}
use Rattle.sim_lanes.specs.declared.narrow.Kind.TheVariants as kind
use Rattle.cyc_sim.specs.declared.operation.Operation.{Operation}
use Rattle.cyc_sim.specs.declared.operation.Operation.TheVariants.{Constant, Part, Join, One, Two, Pick, Guard}
use Rattle.cyc_sim.specs.Operations.{are_places, are_within, is_within, result_over, value_by, values_after, values_in}
use Rattle.sim_lanes.specs.Narrow.{AreBelow, narrow_after}
use Rattle.cyc_sim.specs.Arranged.{AreAlike, HasConstants, IsArrangement, IsConstant, IsPlaced, IsTurn, StandsAt}
use Rattle.cyc_sim.proofs.Settling.{values_after-next, values_stay, within_at}
use Rattle.sim_lanes.proofs.Settling.{narrow_calm, narrow_stay}
use Rattle.plain_lemmas.proofs.Bools.{and-left, and-right}
use Rattle.plain_lemmas.proofs.Numbers.{less as below_test}

-- the places that an operation reads are below its limit
pub two_below : (a b limit : ℕ) → (nat_lt a limit && nat_lt b limit) ≡ true → (a < limit) × (b < limit)
two_below a b limit h = (below_test a limit (and-left (nat_lt a limit) (nat_lt b limit) h), below_test b limit (and-right (nat_lt a limit) (nat_lt b limit) h))

pub three_below : (a b c limit : ℕ) → (nat_lt a limit && nat_lt b limit && nat_lt c limit) ≡ true → (a < limit) × (b < limit) × (c < limit)
three_below a b c limit h = (go (nat_lt a limit) (nat_lt b limit) (nat_lt c limit) (below_test a limit) (below_test b limit) (below_test c limit) h)
  where
    go : (p q r : Bool) → (p ≡ true → a < limit) → (q ≡ true → b < limit) → (r ≡ true → c < limit) → (p && q && r) ≡ true → (a < limit) × (b < limit) × (c < limit)
    go true true true f g k e = (f refl, g refl, k refl)
    go true true false f g k e = cc e
    go true false r f g k e = cc e
    go false q r f g k e = cc e

-- an operation gives the same where what it reads is the same
wide_same : (o : Operation) (limit : ℕ) (vs ws : List ℕ) → is_within limit o ≡ true → ((p : ℕ) → p < limit → get_or vs p 0 ≡ get_or ws p 0) → value_by vs o ≡ value_by ws o
wide_same (Constant v) limit vs ws h alike = refl
wide_same (Part from low width) limit vs ws h alike = ap (λ x. x / 2 ^ low % 2 ^ width) (alike from (below_test from limit (and-left (nat_lt from limit) (nat_lt low 128) h)))
wide_same (Join high low width total) limit vs ws h alike =
    let below = two_below high low limit h in rw (alike high below.0, alike low below.1) refl
wide_same (One op width of) limit vs ws h alike = ap (value_under op width) (alike of (one_below of limit width h))
  where
    one_below : (p l w : ℕ) → is_within l (One op w p) ≡ true → p < l
    one_below p l w e = below_test p l (and-left (nat_lt p l) _ e)
wide_same (Two op width left right) limit vs ws h alike =
    let below = two_below left right limit h in
    ap (λ x. result_over op width x (get_or vs right 0)) (alike left below.0) ∙ ap (λ x. result_over op width (get_or ws left 0) x) (alike right below.1)
wide_same (Pick test chosen other) limit vs ws h alike =
    let below = three_below test chosen other limit h in rw (alike test below.0, alike chosen below.1, alike other below.2) refl
wide_same (Guard pin low value next) limit vs ws h alike =
    let below = two_below pin next limit h in rw (alike pin below.0, alike next below.1) refl

rest_within : (n : ℕ) (p : Operation) (ps : List Operation) → are_within n (p ∷ ps) ≡ true → are_within (n + 1) ps ≡ true
unfolding are_within
rest_within n p ps h = and-right (is_within n p) (are_within (n + 1) ps) h

-- each operation's place has what the operation gives over all values
wide_calm : (os : List Operation) (vs : List ℕ) (first : ℕ) → length vs ≡ first → are_within first os ≡ true → (k : ℕ) (d : Operation) → k < length os
    → get_or (values_after os vs) (first + k) 0 ≡ value_by (values_after os vs) (get_or os k d)
wide_calm [] vs first long within k d l = absurd (omega (arith, l))
wide_calm (o ∷ os) vs first long within zero d l =
    let ws = vs ++ (value_by vs o ∷ []) in
    let more : length ws ≡ length vs + 1 = length-append vs (value_by vs o ∷ []) in
    let here : first + 0 ≡ length vs = omega (arith, long) in
    let at : get_or (values_after os ws) (first + 0) 0 ≡ value_by vs o
    = values_stay os ws (first + 0) (omega (arith, more, long)) ∙ (ap (λ n. get_or ws n 0) here ∙ get_or-append_seam vs (value_by vs o) [] 0) in
    let same : value_by vs o ≡ value_by (values_after os ws) o
    = wide_same o (first + 0) vs (values_after os ws) (within_at first (o ∷ os) 0 o within (omega arith))
    (λ p b. sym (values_stay os ws p (omega (arith, b, more, long)) ∙ get_or_append_left vs (value_by vs o ∷ []) 0 p (omega (arith, b, long)))) in
    ap (λ xs. get_or xs (first + 0) 0) (values_after-next o os vs) ∙ (at ∙ (same ∙ ap (λ xs. value_by xs o) (sym (values_after-next o os vs))))
wide_calm (o ∷ os) vs first long within (suc k) d l =
    let ws = vs ++ (value_by vs o ∷ []) in
    let more : length ws ≡ first + 1 = length-append vs (value_by vs o ∷ []) ∙ omega (arith, long) in
    let e : first + suc k ≡ first + 1 + k = omega arith in
    ap (λ xs. get_or xs (first + suc k) 0) (values_after-next o os vs)
    ∙ (ap (λ n. get_or (values_after os ws) n 0) e
    ∙ (wide_calm os ws (first + 1) more (rest_within first o os within) k d (omega (arith, l)) ∙ ap (λ xs. value_by xs (get_or os k d)) (sym (values_after-next o os vs))))

-- elements of two lists that fit
length_zip : {A B : Type 0} (R : A → B → Type 0) (xs : List A) (ys : List B) → AllZip R xs ys → length xs ≡ length ys
length_zip R [] [] h = refl
length_zip R [] (y ∷ ys) h = absurd h
length_zip R (x ∷ xs) [] h = absurd h
length_zip R (x ∷ xs) (y ∷ ys) h = ap suc (length_zip R xs ys h.1)

zip_at : {A B : Type 0} (R : A → B → Type 0) (xs : List A) (ys : List B) (k : ℕ) (d : A) (e : B) → AllZip R xs ys → k < length xs → R (get_or xs k d) (get_or ys k e)
zip_at R [] ys k d e h l = absurd (omega (arith, l))
zip_at R (x ∷ xs) [] k d e h l = absurd h
zip_at R (x ∷ xs) (y ∷ ys) zero d e h l = h.0
zip_at R (x ∷ xs) (y ∷ ys) (suc k) d e h l = zip_at R xs ys k d e h.1 (omega (arith, l))

-- an operation that is no constant has its turn
placed : (a : Arrangement) (old : ℕ) (o : Operation) → IsPlaced a old o → ((v : ℕ) × (o ≡ Constant v) × IsConstant a (get_or a.places.items old 0) v) ⊎ IsTurn a (get_or a.places.items old 0) old
placed a old (Constant v) h = inl (v, refl, h)
placed a old o h = inr h

any_operation : NarrowOperation
any_operation = record { first = 0; second = 0; third = 0; width = record { bits = 0; most = omega arith }; low = record { bits = 0; less = omega arith }; kind = kind.Part }

behind : (xs ys : List ℕ) (k : ℕ) → k < length ys → get_or (xs ++ ys) (length xs + k) 0 ≡ get_or ys k 0
behind [] ys k l = let e : 0 + k ≡ k = omega arith in ap (λ n. get_or ys n 0) e
behind (x ∷ xs) ys k l = let e : suc (length xs) + k ≡ suc (length xs + k) = omega arith in ap (λ n. get_or (x ∷ xs ++ ys) n 0) e ∙ behind xs ys k l

-- what is known of an arrangement and the narrow operations in its order
pub record IsMade (a : Arrangement) (os : List Operation) (ns : List NarrowOperation) : Type 0 where
  pub arranged : IsArrangement a os
  pub stand : AllZip (StandsAt a os) a.order.items ns
  pub below : AreBelow (a.first + length a.constants.items) ns
  pub within : are_within a.first os ≡ true

has_constants : (a : Arrangement) (os : List Operation) (ns : List NarrowOperation) (base : List ℕ) → IsMade a os ns → length base ≡ a.first
    → HasConstants a.first a.constants.items (narrow_after ns (base ++ a.constants.items))
has_constants a os ns base h long c l =
    let cs = a.constants.items in
    let here : a.first + c ≡ length base + c = omega (arith, long) in
    narrow_stay ns (base ++ cs) (a.first + c) (omega (arith, length-append base cs, long, l)) ∙ (ap (λ n. get_or (base ++ cs) n 0) here ∙ behind base cs c l)

at_constant : (a : Arrangement) (os : List Operation) (ns : List NarrowOperation) (base : List ℕ) (m place v : ℕ) → IsMade a os ns → length base ≡ a.first → m < length os → get_or os m (Constant 0) ≡ Constant v
    → IsConstant a place v → get_or (narrow_after ns (base ++ a.constants.items)) place 0 ≡ get_or (values_after os base) (a.first + m) 0
at_constant a os ns base m place v h long l is c =
    let all = narrow_after ns (base ++ a.constants.items) in
    ap (λ n. get_or all n 0) c.at ∙ (has_constants a os ns base h long c.index c.below ∙ (c.is
    ∙ sym (wide_calm os base a.first long h.within m (Constant 0) l ∙ ap (value_by (values_after os base)) is)))

at_turn : (a : Arrangement) (os : List Operation) (ns : List NarrowOperation) (base : List ℕ) (m place : ℕ) → IsMade a os ns → length base ≡ a.first → m < length os
    → AreAlike a.places.items (a.first + m) (values_after os base) (narrow_after ns (base ++ a.constants.items))
    → IsTurn a place (a.first + m) → get_or (narrow_after ns (base ++ a.constants.items)) place 0 ≡ get_or (values_after os base) (a.first + m) 0
at_turn a os ns base m place h long l alike t =
    let cs = a.constants.items in
    let all = narrow_after ns (base ++ cs) in
    let many = length_zip (StandsAt a os) a.order.items ns h.stand in
    let front : length (base ++ cs) ≡ a.first + length cs = length-append base cs ∙ ap (λ n. n + length cs) long in
    let stands = zip_at (StandsAt a os) a.order.items ns t.index 0 any_operation h.stand t.below in
    ap (λ n. get_or all n 0) t.at
    ∙ (narrow_calm ns (base ++ cs) (a.first + length cs) front h.below t.index any_operation (omega (arith, many, t.below))
    ∙ ((stands.stands m (Constant 0) t.is).same (a.first + m) (values_after os base) all (within_at a.first os m (Constant 0) h.within l) (has_constants a os ns base h long) alike
    ∙ sym (wide_calm os base a.first long h.within m (Constant 0) l)))

at_last : (a : Arrangement) (os : List Operation) (ns : List NarrowOperation) (base : List ℕ) (m : ℕ) → IsMade a os ns → length base ≡ a.first → m < length os
    → AreAlike a.places.items (a.first + m) (values_after os base) (narrow_after ns (base ++ a.constants.items))
    → ((v : ℕ) × (get_or os m (Constant 0) ≡ Constant v) × IsConstant a (get_or a.places.items (a.first + m) 0) v) ⊎ IsTurn a (get_or a.places.items (a.first + m) 0) (a.first + m)
    → get_or (narrow_after ns (base ++ a.constants.items)) (get_or a.places.items (a.first + m) 0) 0 ≡ get_or (values_after os base) (a.first + m) 0
at_last a os ns base m h long l alike (inl c) = at_constant a os ns base m (get_or a.places.items (a.first + m) 0) c.0 h long l c.1 c.2
at_last a os ns base m h long l alike (inr t) = at_turn a os ns base m (get_or a.places.items (a.first + m) 0) h long l alike t

-- each place has its value
pub alike_after : (a : Arrangement) (os : List Operation) (ns : List NarrowOperation) (base : List ℕ) → IsMade a os ns → length base ≡ a.first → (m : ℕ) → m ≤ length os
    → AreAlike a.places.items (a.first + m) (values_after os base) (narrow_after ns (base ++ a.constants.items))
alike_after a os ns base h long zero le p lt =
    let cs = a.constants.items in
    let low : p < length base = omega (arith, lt, long) in
    ap (λ n. get_or (narrow_after ns (base ++ cs)) n 0) (h.arranged.kept p (omega (arith, lt)))
    ∙ (narrow_stay ns (base ++ cs) p (omega (arith, length-append base cs, low)) ∙ (get_or_append_left base cs 0 p low ∙ sym (values_stay os base p low)))
alike_after a os ns base h long (suc m) le p lt =
    let before = alike_after a os ns base h long m (omega (arith, le)) in
    elim (eq-or-lt_of_le {n = p} {m = a.first + m} (omega (arith, lt))) [
      | inr below ↦ before p below
      | inl here ↦ ap (λ q. get_or (narrow_after ns (base ++ a.constants.items)) (get_or a.places.items q 0) 0) here
          ∙ (at_last a os ns base m h long (omega (arith, le)) before (placed a (a.first + m) (get_or os m (Constant 0)) (h.arranged.each m (Constant 0) (omega (arith, le)))) ∙ ap (λ q. get_or (values_after os base) q 0) (sym here))
    ]

-- the values at places, and those at the places of an arrangement
pub values_alike : (places olds news ps : List ℕ) (limit : ℕ) → AreAlike places limit olds news → are_places limit ps ≡ true → values_in news (values_in places ps) ≡ values_in olds ps
unfolding are_places
values_alike places olds news [] limit alike within = refl
values_alike places olds news (p ∷ ps) limit alike within =
    let low = below_test p limit (and-left (nat_lt p limit) (list_all (λ q. nat_lt q limit) ps) within) in
    ap (λ x. x ∷ values_in news (values_in places ps)) (alike p low)
    ∙ ap (λ xs. get_or olds p 0 ∷ xs) (values_alike places olds news ps limit alike (and-right (nat_lt p limit) (list_all (λ q. nat_lt q limit) ps) within))
