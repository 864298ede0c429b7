-- The word at an address.
use Rattle.std.proofs.Common.{◌≡◌, ◌∙◌, ℕ, zero, suc, ◌+◌, ◌-◌, ◌<◌, ◌≤◌, ◌==◌, true, false, cond, nat_lt, List, get_or, length, map, None, Some, slice_get, sym, ap, subst, arith}
use Rattle.std.specs.List.{position_or_len}
use Rattle.std.specs.List.Sorted.{IsStrictlyIncreasing}
use Rattle.std.proofs.lemmas.List.Sums.{position_or_len_is}
use Rattle.rb_model.specs.declared.block.Block.{Block}
use Rattle.rb_model.specs.declared.block.Word.{Word}
use Rattle.rb_model.specs.Run.{word_at}
use Rattle.rb_model.specs.Sound.{IsSound}
use Rattle.word_groups.specs.declared.entries.Entry.{Entry}
use Rattle.word_groups.specs.Entries.{path_of}
use Rattle.word_groups.specs.Paths.{indices}
use Rattle.c_header.specs.Laws.{IsEntryOf}
use Rattle.c_header.specs.Macros.{Offset, value_at}
use Rattle.plain_lemmas.proofs.Lists.{get-at, get-within, get_or-below as below, length-map, mapped-at}
use Rattle.plain_lemmas.proofs.Numbers.{below-nat_lt, differ, eq-itself}

reached : (ws : List Word) (i : ℕ) (w : Word) → IsStrictlyIncreasing (map (λ v. v.address) ws) → slice_get ws i ≡ Some w → word_at ws w.address ≡ Some i
reached ws i w up at =
    let within : i < length ws = get-within ws i w at in
    let many : length (map (λ (v : Word). v.address) ws) ≡ length ws = length-map (λ v. v.address) ws in
    let address : (k : ℕ) → k < length ws → get_or (map (λ (v : Word). v.address) ws) k 0 ≡ (get_or ws k w).address = λ k l. mapped-at (λ (v : Word). v.address) ws k (get_or ws k w) 0 (get-at ws k w l) in
    let here : get_or (map (λ (v : Word). v.address) ws) i 0 ≡ w.address = mapped-at (λ (v : Word). v.address) ws i w 0 at in
    let same : (get_or ws i w).address ≡ w.address = sym (address i within) ∙ here in
    let place : position_or_len (λ (v : Word). w.address == v.address) ws ≡ i = position_or_len_is (λ (v : Word). w.address == v.address) ws i w (omega (arith, within))
    (λ k l. differ w.address (get_or ws k w).address (let lower = below (map (λ (v : Word). v.address) ws) up k i l (omega (arith, within, many)) in let there = address k (omega (arith, l, within)) in omega (arith, lower, there, here)))
    (λ l. ap (λ n. w.address == n) same ∙ eq-itself w.address) in
    ap (λ n. cond (nat_lt n (length ws)) (Some n) None) place ∙ ap (λ t. cond t (Some i) None) (below-nat_lt i (length ws) within)

pub read-reached : (b : Block) (i : ℕ) (w : Word) (e : Entry) → IsSound b → slice_get b.reads i ≡ Some w → IsEntryOf b w e → word_at b.reads (value_at (Offset e.address e.strides) (indices (path_of b w))) ≡ Some i
read-reached b i w e s at is = ap (word_at b.reads) is.offset ∙ reached b.reads i w s.by_address at

pub write-reached : (b : Block) (i : ℕ) (w : Word) (e : Entry) → IsSound b → slice_get b.writes i ≡ Some w → IsEntryOf b w e → word_at b.writes (value_at (Offset e.address e.strides) (indices (path_of b w))) ≡ Some i
write-reached b i w e s at is = ap (word_at b.writes) is.offset ∙ reached b.writes i w (subst IsStrictlyIncreasing s.same_addresses s.by_address) at
