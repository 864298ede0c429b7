-- The lowest 64 bits of numbers.
use Rattle.std.proofs.Common.{◌≡◌, ℕ, zero, suc, ◌+◌, ◌%◌, ◌^◌, ◌<◌, ◌≤◌, List, [], ◌∷◌, ◌++◌, length, take, drop, get_or, refl, ap, sym, ◌∙◌, arith}
use Rattle.std.proofs.Math.Nat.{mod-eq_of_lt, pow-le-pow_right}
use Rattle.std.proofs.Math.ListN.{set}
use Rattle.std.proofs.lemmas.List.{drop_all, length-map, take_all}
use Rattle.rb_base.specs.declared.ports.Pin.{Pin}
use Rattle.v_design.specs.Fits.{FitsPins}
use Rattle.cyc_sim.specs.Narrow.{AreNarrow, low_all}
use Rattle.sim_lanes.proofs.Places.{put_more}

pub low_at : (xs : List ℕ) (k : ℕ) → get_or (low_all xs) k 0 ≡ get_or xs k 0 % 2 ^ 64
low_at [] k = refl
low_at (x ∷ xs) zero = refl
low_at (x ∷ xs) (suc k) = low_at xs k

pub low_length : (xs : List ℕ) → length (low_all xs) ≡ length xs
low_length xs = length-map xs _

low_same : (x w : ℕ) → x < 2 ^ w → w ≤ 64 → x % 2 ^ 64 ≡ x
low_same x w fits narrow =
    let more : 2 ^ w ≤ 2 ^ 64 = pow-le-pow_right (omega arith) narrow in
    mod-eq_of_lt (omega (arith, more, fits))

-- numbers of pins that have no more bits are these
pub lows_same : (ps : List Pin) (xs : List ℕ) → AreNarrow ps → FitsPins ps xs → low_all xs ≡ xs
lows_same [] [] h k = refl
lows_same [] (x ∷ xs) h k = absurd k
lows_same (p ∷ ps) [] h k = refl
lows_same (p ∷ ps) (x ∷ xs) h k = ap (λ y. y ∷ low_all xs) (low_same x p.width k.0 h.0) ∙ ap (λ ys. x ∷ ys) (lows_same ps xs h.1 k.1)

-- one more of them over the values from a place on
pub put_low_more : (vs old ns : List ℕ) (at k x : ℕ) → vs ≡ take at old ++ (take k (low_all ns) ++ drop (at + k) old) → x ≡ get_or ns k 0 % 2 ^ 64 → k < length ns → at + length ns ≤ length old
    → set vs (at + k) x ≡ take at old ++ (take (k + 1) (low_all ns) ++ drop (at + (k + 1)) old)
put_low_more vs old ns at k x is low l fits =
    let long = low_length ns in
    ap (λ ys. set ys (at + k) x) is
    ∙ (ap (λ y. set (take at old ++ (take k (low_all ns) ++ drop (at + k) old)) (at + k) y) (low ∙ sym (low_at ns k)) ∙ put_more old (low_all ns) at k (omega (arith, long, l)) (omega (arith, long, fits)))

-- all numbers are written
pub put_all : (old ns : List ℕ) (at k : ℕ) → k ≡ length ns → take at old ++ (take k ns ++ drop (at + k) old) ≡ take at old ++ (ns ++ drop (at + length ns) old)
put_all old ns at k is =
    ap (λ n. take at old ++ (take n ns ++ drop (at + n) old)) is ∙ ap (λ t. take at old ++ (t ++ drop (at + length ns) old)) (take_all (length ns) ns (omega arith))

pub narrow_more : (ps : List Pin) (p : Pin) → AreNarrow ps → p.width ≤ 64 → AreNarrow (ps ++ (p ∷ []))
narrow_more [] p h k = (k, tt)
narrow_more (q ∷ qs) p h k = (h.0, narrow_more qs p h.1 k)

-- numbers are written over all values
pub written_all : (old ns : List ℕ) → length ns ≡ length old → take 0 old ++ (ns ++ drop (0 + length ns) old) ≡ ns
written_all old ns long = ap (λ xs. ns ++ xs) (drop_all (0 + length ns) old (omega (arith, long))) ∙ append-nil ns
  where
    append-nil : (xs : List ℕ) → xs ++ [] ≡ xs
    append-nil [] = refl
    append-nil (x ∷ xs) = ap (λ ys. x ∷ ys) (append-nil xs)
