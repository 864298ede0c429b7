-- A rising list cut at a number.
use Rattle.std.proofs.Common.{◌≡◌, ℕ, zero, suc, ◌+◌, ◌-◌, ◌<◌, ◌≤◌, true, false, ltb, ltb-true, ltb-false, List, length, get_or, take, drop, ap, sym, subst, arith}
use Rattle.std.specs.List.Sorted.{IsStrictlyIncreasing, IsPartitionedBy, IsPartitionPoint}
use Rattle.std.proofs.lemmas.List.{get_or-take, get_or-drop, get_or_default, length-take-le, length-drop, take-append-drop}
use Rattle.std.proofs.lemmas.Option.{get_or_from_slice_get}
use Rattle.rtl_net.proofs.Places.{slice_get-within}
use Rattle.gen_decode.specs.Among.{IsCut}
use Rattle.plain_lemmas.proofs.Lists.{get_or-not_below as rises}

pub parted : (xs : List ℕ) (t : ℕ) → IsStrictlyIncreasing xs → IsPartitionedBy (λ w. ltb w t) xs
parted xs t up i j d le lt e =
    let n : i + (j - i) ≡ j = omega arith in
    let below : get_or xs j d < t = ltb-true (get_or xs j d) t e in
    let same : get_or xs j d ≡ get_or xs j 0 = get_or_default xs j d 0 lt in
    let same_i : get_or xs i d ≡ get_or xs i 0 = get_or_default xs i d 0 (omega arith) in
    let up_to : get_or xs i 0 ≤ get_or xs (i + (j - i)) 0 = rises xs up i (j - i) (omega arith) in
    let at_j : get_or xs (i + (j - i)) 0 ≡ get_or xs j 0 = ap (λ k. get_or xs k 0) n in
    let l : get_or xs i d < t = omega arith in
    lt-ltb l
  where
    lt-ltb : {a b : ℕ} → a < b → ltb a b ≡ true
    lt-ltb h = grind arith

pub cut_at : (xs left right : List ℕ) (t n : ℕ) → IsStrictlyIncreasing xs → n ≤ length xs → IsPartitionPoint (λ w. ltb w t ≡ true) (λ w. ltb w t ≡ false) xs n
    → left ≡ take n xs → right ≡ drop n xs → IsCut xs left right t
cut_at xs left right t n up l point front back =
    let P : List ℕ → Type 0 = λ a. IsCut xs a right t in
    subst P (sym front) (let Q : List ℕ → Type 0 = λ b. IsCut xs (take n xs) b t in subst Q (sym back) cut)
  where
    taken : length (take n xs) ≡ n
    taken = length-take-le n xs l

    dropped : length (drop n xs) ≡ length xs - n
    dropped = length-drop n xs

    cut : IsCut xs (take n xs) (drop n xs) t
    cut = record {
      whole = sym (take-append-drop n xs);
      low = λ i w e.
          let i_in : i < n = (let g = slice_get-within (take n xs) i w e in omega (arith, taken)) in
          let is : get_or (take n xs) i 0 ≡ w = get_or_from_slice_get (take n xs) i w 0 e in
          let was : get_or (take n xs) i 0 ≡ get_or xs i 0 = get_or-take n xs i 0 i_in in
          let b : get_or xs i 0 < t = ltb-true (get_or xs i 0) t (point.0 i 0 (omega arith) i_in) in
          omega arith;
      high = λ i w e.
          let i_in : i < length xs - n = (let g = slice_get-within (drop n xs) i w e in omega (arith, dropped)) in
          let is : get_or (drop n xs) i 0 ≡ w = get_or_from_slice_get (drop n xs) i w 0 e in
          let was : get_or (drop n xs) i 0 ≡ get_or xs (n + i) 0 = get_or-drop n xs i 0 in
          let b : t ≤ get_or xs (n + i) 0 = ltb-false (get_or xs (n + i) 0) t (point.1 (n + i) 0 (omega arith) (omega arith)) in
          omega arith;
      low_rising = λ k h.
          let a : get_or (take n xs) k 0 ≡ get_or xs k 0 = get_or-take n xs k 0 (omega (arith, taken)) in
          let b : get_or (take n xs) (k + 1) 0 ≡ get_or xs (k + 1) 0 = get_or-take n xs (k + 1) 0 (omega (arith, taken)) in
          let r : get_or xs k 0 < get_or xs (k + 1) 0 = up k (omega (arith, taken)) in
          omega arith;
      high_rising = λ k h.
          let a : get_or (drop n xs) k 0 ≡ get_or xs (n + k) 0 = get_or-drop n xs k 0 in
          let b : get_or (drop n xs) (k + 1) 0 ≡ get_or xs (n + (k + 1)) 0 = get_or-drop n xs (k + 1) 0 in
          let e : n + (k + 1) ≡ n + k + 1 = omega arith in
          let at : get_or xs (n + (k + 1)) 0 ≡ get_or xs (n + k + 1) 0 = ap (λ j. get_or xs j 0) e in
          let r : get_or xs (n + k) 0 < get_or xs (n + k + 1) 0 = up (n + k) (omega (arith, dropped)) in
          omega arith;
    }
