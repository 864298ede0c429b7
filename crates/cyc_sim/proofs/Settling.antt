-- What operations compute, place by place.
use Rattle.std.proofs.Common.{◌≡◌, ℕ, zero, suc, ◌+◌, ◌<◌, ◌≤◌, true, List, [], ◌∷◌, ◌++◌, length, take, drop, get_or, refl, ap, sym, ◌∙◌, length-append, add-one, add-zero, arith}
use Rattle.std.proofs.Math.Seq.{drop-cons, get_or-append_seam}
use Rattle.std.proofs.lemmas.List.{get_or_append_left, take_more_set, drop_all, take_all}
use Rattle.std.proofs.Math.ListN.{set}
use Rattle.cyc_sim.specs.declared.operation.Operation.{Operation}
use Rattle.cyc_sim.specs.Operations.{value_by, is_within, are_within, values_after}
use Rattle.plain_lemmas.proofs.Bools.{and-both_true as both, and-left, and-right}

pub values_after-none : (vs : List ℕ) → values_after [] vs ≡ vs
unfolding values_after
values_after-none vs = refl

pub values_after-next : (o : Operation) (os : List Operation) (vs : List ℕ) → values_after (o ∷ os) vs ≡ values_after os (vs ++ (value_by vs o ∷ []))
unfolding values_after
values_after-next o os vs = refl

pub values_after-append : (os ps : List Operation) (vs : List ℕ) → values_after (os ++ ps) vs ≡ values_after ps (values_after os vs)
unfolding values_after
values_after-append [] ps vs = refl
values_after-append (o ∷ os) ps vs = values_after-append os ps (vs ++ (value_by vs o ∷ []))

pub length-values_after : (os : List Operation) (vs : List ℕ) → length (values_after os vs) ≡ length vs + length os
unfolding values_after
length-values_after [] vs = sym (add-zero (length vs))
length-values_after (o ∷ os) vs = length-values_after os (vs ++ (value_by vs o ∷ [])) ∙ omega (arith, length-append vs (value_by vs o ∷ []))

-- the values of earlier places stay
pub values_stay : (os : List Operation) (vs : List ℕ) (p : ℕ) → p < length vs → get_or (values_after os vs) p 0 ≡ get_or vs p 0
unfolding values_after
values_stay [] vs p h = refl
values_stay (o ∷ os) vs p h =
    values_stay os (vs ++ (value_by vs o ∷ [])) p (omega (arith, h, length-append vs (value_by vs o ∷ []))) ∙ get_or_append_left vs (value_by vs o ∷ []) 0 p h

-- the value of the last operation
pub value_last : (vs : List ℕ) (o : Operation) → get_or (values_after (o ∷ []) vs) (length vs) 0 ≡ value_by vs o
unfolding values_after
value_last vs o = get_or-append_seam vs (value_by vs o) [] 0

-- one operation after others
pub value_added : (os : List Operation) (base : List ℕ) (o : Operation) → get_or (values_after (os ++ (o ∷ [])) base) (length base + length os) 0 ≡ value_by (values_after os base) o
value_added os base o =
    ap (λ vs. get_or vs (length base + length os) 0) (values_after-append os (o ∷ []) base)
    ∙ (ap (λ n. get_or (values_after (o ∷ []) (values_after os base)) n 0) (sym (length-values_after os base)) ∙ value_last (values_after os base) o)

-- a value stays under further operations
pub value_kept : (os more : List Operation) (base : List ℕ) (p : ℕ) → p < length base + length os → get_or (values_after (os ++ more) base) p 0 ≡ get_or (values_after os base) p 0
value_kept os more base p h =
    ap (λ vs. get_or vs p 0) (values_after-append os more base) ∙ values_stay more (values_after os base) p (omega (arith, h, length-values_after os base))

-- an operation at a place reads the places before it
pub within_at : (first : ℕ) (os : List Operation) (k : ℕ) (d : Operation) → are_within first os ≡ true → k < length os → is_within (first + k) (get_or os k d) ≡ true
unfolding are_within
within_at first [] k d h l = absurd (omega (arith, l))
within_at first (o ∷ os) zero d h l = ap (λ n. is_within n o) (add-zero first) ∙ and-left (is_within first o) (are_within (first + 1) os) h
within_at first (o ∷ os) (suc k) d h l =
    let same : first + suc k ≡ first + 1 + k = omega arith in
    ap (λ n. is_within n (get_or os k d)) same ∙ within_at (first + 1) os k d (and-right (is_within first o) (are_within (first + 1) os) h) (omega (arith, l))

pub within_more : (first : ℕ) (os : List Operation) (o : Operation) → are_within first os ≡ true → is_within (first + length os) o ≡ true → are_within first (os ++ (o ∷ [])) ≡ true
unfolding are_within
within_more first [] o h k = both (is_within first o) true (ap (λ n. is_within n o) (sym (add-zero first)) ∙ k) refl
within_more first (p ∷ ps) o h k =
    let same : first + suc (length ps) ≡ first + 1 + length ps = omega arith in
    both (is_within first p) (are_within (first + 1) (ps ++ (o ∷ []))) (and-left (is_within first p) (are_within (first + 1) ps) h)
    (within_more (first + 1) ps o (and-right (is_within first p) (are_within (first + 1) ps) h) (ap (λ n. is_within n o) (sym same) ∙ k))

-- one step of settling
pub settled_more : (os : List Operation) (d : Operation) (first k : ℕ) (vs : List ℕ) (x : ℕ) → k < length os → first + k < length vs → value_by (take (first + k) vs) (get_or os k d) ≡ x
    → values_after (drop k os) (take (first + k) vs) ≡ values_after (drop (k + 1) os) (take (first + (k + 1)) (set vs (first + k) x))
settled_more os d first k vs x l m is =
    let grown : take (first + (k + 1)) (set vs (first + k) x) ≡ take (first + k) vs ++ (x ∷ []) = rw (plus first k) (take_more_set vs (first + k) x m) in
    ap (λ ps. values_after ps (take (first + k) vs)) (drop-cons os k d l ∙ ap (λ n. get_or os k d ∷ drop n os) (sym (add-one k)))
    ∙ (values_after-next (get_or os k d) (drop (k + 1) os) (take (first + k) vs)
    ∙ (ap (λ y. values_after (drop (k + 1) os) (take (first + k) vs ++ (y ∷ []))) is ∙ ap (values_after (drop (k + 1) os)) (sym grown)))
  where
    plus : (a b : ℕ) → a + (b + 1) ≡ a + b + 1
    plus a b = omega arith

-- no operation is left
pub settled_all : (os : List Operation) (first k : ℕ) (vs : List ℕ) → length os ≤ k → k ≤ length os → length vs ≡ first + length os → values_after (drop k os) (take (first + k) vs) ≡ vs
settled_all os first k vs l m sized =
    ap (λ ps. values_after ps (take (first + k) vs)) (drop_all k os l) ∙ (values_after-none (take (first + k) vs) ∙ take_all (first + k) vs (omega (arith, l, m, sized)))
