-- What narrow operations compute, place by place.
use Rattle.std.proofs.Common.{◌≡◌, ℕ, zero, suc, ◌+◌, ◌<◌, ◌≤◌, List, [], ◌∷◌, ◌++◌, length, take, drop, get_or, refl, ap, sym, ◌∙◌, length-append, add-one, add-zero, arith}
use Rattle.std.proofs.Math.Seq.{drop-cons, get_or-append_seam}
use Rattle.std.proofs.lemmas.List.{get_or_append_left, take_more_set, drop_all, take_all}
use Rattle.std.proofs.Math.ListN.{set}
use Rattle.sim_lanes.specs.declared.narrow.Kind.{Kind}
use Rattle.sim_lanes.specs.declared.narrow.NarrowOperation.{NarrowOperation}
use Rattle.sim_lanes.specs.Narrow.{AreBelow, IsBelow, narrow_after, value_at, value_by_kind}

pub narrow_after-none : (vs : List ℕ) → narrow_after [] vs ≡ vs
unfolding narrow_after
narrow_after-none vs = refl

pub narrow_after-next : (o : NarrowOperation) (os : List NarrowOperation) (vs : List ℕ) → narrow_after (o ∷ os) vs ≡ narrow_after os (vs ++ (value_at vs o ∷ []))
unfolding narrow_after
narrow_after-next o os vs = refl

pub length-narrow_after : (os : List NarrowOperation) (vs : List ℕ) → length (narrow_after os vs) ≡ length vs + length os
unfolding narrow_after
length-narrow_after [] vs = sym (add-zero (length vs))
length-narrow_after (o ∷ os) vs = length-narrow_after os (vs ++ (value_at vs o ∷ [])) ∙ omega (arith, length-append vs (value_at vs o ∷ []))

-- the values of earlier places stay
pub narrow_stay : (os : List NarrowOperation) (vs : List ℕ) (p : ℕ) → p < length vs → get_or (narrow_after os vs) p 0 ≡ get_or vs p 0
unfolding narrow_after
narrow_stay [] vs p h = refl
narrow_stay (o ∷ os) vs p h =
    narrow_stay os (vs ++ (value_at vs o ∷ [])) p (omega (arith, h, length-append vs (value_at vs o ∷ []))) ∙ get_or_append_left vs (value_at vs o ∷ []) 0 p h

pub same_by_kind : (k : Kind) (low width a a' b b' c c' : ℕ) → a ≡ a' → b ≡ b' → c ≡ c' → value_by_kind k low width a b c ≡ value_by_kind k low width a' b' c'
same_by_kind k low width a a' b b' c c' p q r =
    ap (λ x. value_by_kind k low width x b c) p ∙ (ap (λ x. value_by_kind k low width a' x c) q ∙ ap (λ x. value_by_kind k low width a' b' x) r)

-- an operation gives the same where what it reads is the same
pub narrow_same : (o : NarrowOperation) (limit : ℕ) (vs ws : List ℕ) → IsBelow limit o → ((p : ℕ) → p < limit → get_or vs p 0 ≡ get_or ws p 0) → value_at vs o ≡ value_at ws o
narrow_same o limit vs ws below alike =
    same_by_kind o.kind o.low.bits o.width.bits (get_or vs o.first 0) (get_or ws o.first 0) (get_or vs o.second 0) (get_or ws o.second 0) (get_or vs o.third 0) (get_or ws o.third 0)
    (alike o.first below.first) (alike o.second below.second) (alike o.third below.third)

pub rest_below : (first : ℕ) (o : NarrowOperation) (os : List NarrowOperation) → AreBelow first (o ∷ os) → AreBelow (first + 1) os
rest_below first o os h = record { each = λ k d l. let e : first + suc k ≡ first + 1 + k = omega arith in subst_below (first + suc k) (first + 1 + k) (get_or os k d) e (h.each (suc k) d (omega (arith, l))) }
  where
    subst_below : (m n : ℕ) (p : NarrowOperation) → m ≡ n → IsBelow m p → IsBelow n p
    subst_below m n p e b = record { first = omega (arith, e, b.first); second = omega (arith, e, b.second); third = omega (arith, e, b.third) }

pub head_below : (first : ℕ) (o : NarrowOperation) (os : List NarrowOperation) → AreBelow first (o ∷ os) → IsBelow first o
head_below first o os h =
    let b : IsBelow (first + 0) o = h.each 0 o (omega arith) in
    record { first = omega (arith, b.first); second = omega (arith, b.second); third = omega (arith, b.third) }

-- each operation's place has what the operation gives over all values
pub narrow_calm : (os : List NarrowOperation) (vs : List ℕ) (first : ℕ) → length vs ≡ first → AreBelow first os → (k : ℕ) (d : NarrowOperation) → k < length os
    → get_or (narrow_after os vs) (first + k) 0 ≡ value_at (narrow_after os vs) (get_or os k d)
narrow_calm [] vs first long below k d l = absurd (omega (arith, l))
narrow_calm (o ∷ os) vs first long below zero d l =
    let ws = vs ++ (value_at vs o ∷ []) in
    let more : length ws ≡ length vs + 1 = length-append vs (value_at vs o ∷ []) in
    let here : first + 0 ≡ length vs = omega (arith, long) in
    let at : get_or (narrow_after os ws) (first + 0) 0 ≡ value_at vs o
    = narrow_stay os ws (first + 0) (omega (arith, more, long)) ∙ (ap (λ n. get_or ws n 0) here ∙ get_or-append_seam vs (value_at vs o) [] 0) in
    let same : value_at vs o ≡ value_at (narrow_after os ws) o
    = narrow_same o first vs (narrow_after os ws) (head_below first o os below)
    (λ p b. sym (narrow_stay os ws p (omega (arith, b, more, long)) ∙ get_or_append_left vs (value_at vs o ∷ []) 0 p (omega (arith, b, long)))) in
    ap (λ xs. get_or xs (first + 0) 0) (narrow_after-next o os vs) ∙ (at ∙ (same ∙ ap (λ xs. value_at xs o) (sym (narrow_after-next o os vs))))
narrow_calm (o ∷ os) vs first long below (suc k) d l =
    let ws = vs ++ (value_at vs o ∷ []) in
    let more : length ws ≡ first + 1 = length-append vs (value_at vs o ∷ []) ∙ omega (arith, long) in
    let e : first + suc k ≡ first + 1 + k = omega arith in
    ap (λ xs. get_or xs (first + suc k) 0) (narrow_after-next o os vs)
    ∙ (ap (λ n. get_or (narrow_after os ws) n 0) e
    ∙ (narrow_calm os ws (first + 1) more (rest_below first o os below) k d (omega (arith, l)) ∙ ap (λ xs. value_at xs (get_or os k d)) (sym (narrow_after-next o os vs))))

-- one step of settling
pub narrow_more : (os : List NarrowOperation) (d : NarrowOperation) (first k : ℕ) (vs : List ℕ) (x : ℕ) → k < length os → first + k < length vs → value_at (take (first + k) vs) (get_or os k d) ≡ x
    → narrow_after (drop k os) (take (first + k) vs) ≡ narrow_after (drop (k + 1) os) (take (first + (k + 1)) (set vs (first + k) x))
narrow_more os d first k vs x l m is =
    let grown : take (first + (k + 1)) (set vs (first + k) x) ≡ take (first + k) vs ++ (x ∷ []) = rw (plus first k) (take_more_set vs (first + k) x m) in
    ap (λ ps. narrow_after ps (take (first + k) vs)) (drop-cons os k d l ∙ ap (λ n. get_or os k d ∷ drop n os) (sym (add-one k)))
    ∙ (narrow_after-next (get_or os k d) (drop (k + 1) os) (take (first + k) vs)
    ∙ (ap (λ y. narrow_after (drop (k + 1) os) (take (first + k) vs ++ (y ∷ []))) is ∙ ap (narrow_after (drop (k + 1) os)) (sym grown)))
  where
    plus : (a b : ℕ) → a + (b + 1) ≡ a + b + 1
    plus a b = omega arith

-- no operation is left
pub narrow_all : (os : List NarrowOperation) (first k : ℕ) (vs : List ℕ) → length os ≤ k → k ≤ length os → length vs ≡ first + length os → narrow_after (drop k os) (take (first + k) vs) ≡ vs
narrow_all os first k vs l m sized =
    ap (λ ps. narrow_after ps (take (first + k) vs)) (drop_all k os l) ∙ (narrow_after-none (take (first + k) vs) ∙ take_all (first + k) vs (omega (arith, l, m, sized)))
