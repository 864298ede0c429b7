-- What a word shows of the fields of a register, one by one.
use Rattle.std.proofs.Common.{◌≡◌, ◌∙◌, ℕ, ◌+◌, List, ◌++◌, suc, drop, length, slice_get, append_assoc, append-nil, Some, sym, ap, arith}
use Rattle.rb_model.specs.declared.block.Slot.{Slot}
use Rattle.rdl_addr.specs.Bits.{Bits}
use Rattle.rdl_rules.specs.Words.{slot, slots_from}
use Rattle.rdl_sizes.proofs.Turns.{drop-all, drop-at}

pub one-more : (first base width i : ℕ) (bs : List Bits) (b : Bits) (old new all : List Slot) → slice_get bs i ≡ Some b → old ++ slots_from (first + i) base width (drop i bs) ≡ all → new ≡ old ++ slot (first + i) base width b → new ++ slots_from (first + (i + 1)) base width (drop (i + 1) bs) ≡ all
one-more first base width i bs b old new all at before put =
    ap (λ s. s ++ slots_from (first + (i + 1)) base width (drop (i + 1) bs)) put
    ∙ (append_assoc old (slot (first + i) base width b) (slots_from (first + (i + 1)) base width (drop (i + 1) bs))
    ∙ (ap (λ n. old ++ (slot (first + i) base width b ++ slots_from n base width (drop (i + 1) bs))) next
    ∙ (ap (λ n. old ++ (slot (first + i) base width b ++ slots_from (first + i + 1) base width (drop n bs))) one
    ∙ (ap (λ xs. old ++ slots_from (first + i) base width xs) (sym (drop-at bs i b at)) ∙ before))))
  where
    next : first + (i + 1) ≡ first + i + 1
    next = omega arith

    one : i + 1 ≡ suc i
    one = omega arith

pub all-shown : (first base width i : ℕ) (bs : List Bits) (old all : List Slot) → length bs ≡ i → old ++ slots_from (first + i) base width (drop i bs) ≡ all → old ≡ all
all-shown first base width i bs old all many before = sym (append-nil old) ∙ (ap (λ xs. old ++ slots_from (first + i) base width xs) (sym (drop-all bs i many)) ∙ before)
