-- Which operations are due after one was made due, or was taken from those.
use Rattle.std.proofs.Common.{◌≡◌, ◌≢◌, ℕ, ◌+◌, ◌*◌, ◌/◌, ◌%◌, ◌^◌, ◌<◌, ◌≤◌, max, List, length, get_or, refl, ap, sym, ◌∙◌, inl, inr, ◌⊎◌, arith}
use Rattle.std.specs.Int.{bit_at, bit_not, w64}
use Rattle.std.specs.Int.RustNames.{bit_and, bit_or}
use Rattle.std.proofs.Math.ListN.{set}
use Rattle.std.proofs.lemmas.Bool.{cases_eq, cases_lt}
use Rattle.std.proofs.lemmas.List.{get_or-set_other, get_or-set_same, get_or_past}
use Rattle.std.proofs.lemmas.Nat.Bits.{bit_at-zero, bit_at_clear_other, bit_at_or, bit_at_set_same}
use Rattle.sim_lanes.specs.Due.{due_at}

-- the bit of an operation, in a word that was written
due_there : (due : List ℕ) (w x k : ℕ) → w < length due → k / 64 ≡ w → due_at (set due w x) k ≡ bit_at x (k % 64)
unfolding due_at
due_there due w x k low here = ap (λ n. bit_at (get_or (set due w x) n 0) (k % 64)) here ∙ ap (λ y. bit_at y (k % 64)) (get_or-set_same due w x 0 low)

-- and in another word
due_elsewhere : (due : List ℕ) (w x k : ℕ) → k / 64 ≢ w → due_at (set due w x) k ≡ due_at due k
unfolding due_at
due_elsewhere due w x k apart = ap (λ y. bit_at y (k % 64)) (get_or-set_other due w (k / 64) x 0 apart)

due_in : (due : List ℕ) (w k : ℕ) → k / 64 ≡ w → due_at due k ≡ bit_at (get_or due w 0) (k % 64)
unfolding due_at
due_in due w k here = ap (λ n. bit_at (get_or due n 0) (k % 64)) here

pub marked_kept : (due : List ℕ) (w m k : ℕ) → w < length due → due_at (set due w (bit_or (get_or due w 0) m)) k ≡ 0 → due_at due k ≡ 0
marked_kept due w m k low none = elim (cases_eq (k / 64) w) [
  | inl here ↦ due_in due w k here ∙ lower (bit_at (get_or due w 0) (k % 64)) (bit_at m (k % 64)) (sym (bit_at_or (get_or due w 0) m (k % 64)) ∙ (sym (due_there due w (bit_or (get_or due w 0) m) k low here) ∙ none))
  | inr apart ↦ sym (due_elsewhere due w (bit_or (get_or due w 0) m) k apart) ∙ none
]
  where
    lower : (a b : ℕ) → max a b ≡ 0 → a ≡ 0
    lower a b h = omega (arith, h)

pub marked_there : (due : List ℕ) (k : ℕ) → k / 64 < length due → due_at (set due (k / 64) (bit_or (get_or due (k / 64) 0) (1 * 2 ^ (k % 64) % 2 ^ 64))) k ≡ 1
marked_there due k low =
    due_there due (k / 64) (bit_or (get_or due (k / 64) 0) (1 * 2 ^ (k % 64) % 2 ^ 64)) k low refl ∙ bit_at_set_same w64 (get_or due (k / 64) 0) (k % 64) (omega arith)

pub unmarked_other : (due : List ℕ) (w b k : ℕ) → w < length due → b < 64 → k ≢ 64 * w + b → due_at (set due w (bit_and (get_or due w 0) (bit_not w64 (1 * 2 ^ b % 2 ^ 64)))) k ≡ due_at due k
unmarked_other due w b k low small other = elim (cases_eq (k / 64) w) [
  | inl here ↦ due_there due w (bit_and (get_or due w 0) (bit_not w64 (1 * 2 ^ b % 2 ^ 64))) k low here
      ∙ (bit_at_clear_other w64 (get_or due w 0) b small (k % 64) (omega arith) (λ e. other (omega (arith, here, e))) ∙ sym (due_in due w k here))
  | inr apart ↦ due_elsewhere due w (bit_and (get_or due w 0) (bit_not w64 (1 * 2 ^ b % 2 ^ 64))) k apart
]

-- no operation is due where all words are 0
pub none_due : (due : List ℕ) → ((w : ℕ) → w < length due → get_or due w 0 ≡ 0) → (k : ℕ) → due_at due k ≡ 0
unfolding due_at
none_due due none k = elim (within (k / 64)) [
  | inl low ↦ ap (λ y. bit_at y (k % 64)) (none (k / 64) low) ∙ bit_at-zero (k % 64)
  | inr past ↦ ap (λ y. bit_at y (k % 64)) (get_or_past due (k / 64) 0 past) ∙ bit_at-zero (k % 64)
]
  where
    within : (w : ℕ) → (w < length due) ⊎ (length due ≤ w)
    within w = cases_lt w (length due)
