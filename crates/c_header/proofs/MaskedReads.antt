-- What a mask and a shift take from what a read gives.
use Rattle.std.proofs.Common.{◌≡◌, ◌∙◌, ◌⊎◌, inl, inr, ℕ, zero, suc, ◌+◌, ◌-◌, ◌*◌, ◌/◌, ◌%◌, ◌^◌, ◌<◌, ◌≤◌, Bool, true, false, ◌&&◌, IsTrue, cond, bit_and, bit_or, fold, get_or, nat_lt, List, [], ◌∷◌, slice_get, Some, add-zero, refl, sym, ap, subst, arith}
use Rattle.std.specs.Int.Bits.{or_zero_r}
use Rattle.std.specs.List.{AllPairs}
use Rattle.std.specs.Option.{option_map_or}
use Rattle.std.proofs.Math.Nat.{mod-eq_of_lt, mod-lt}
use Rattle.std.proofs.lemmas.Bool.Decides.{nat_tests}
use Rattle.std.proofs.lemmas.Nat.{div-mul-add, mod-mul-add, or_comm, or_mod, or_shr, pow_pos, pow-add}
use Rattle.rb_base.specs.Bits.{part as bits_of}
use Rattle.rb_model.specs.declared.block.Block.{Block}
use Rattle.rb_model.specs.declared.block.Slot.{Slot}
use Rattle.rb_model.specs.declared.block.View.{View}
use Rattle.rb_model.specs.declared.block.Word.{Word}
use Rattle.rb_model.specs.declared.kinds.RefItem.TheVariants as item
use Rattle.rb_model.specs.Items.{ItemValues, Read}
use Rattle.rb_model.specs.Machine.{read_data, slot_value}
use Rattle.rb_model.specs.Sound.{SlotIsSound, StandTogether, WordIsSound, share_bit, view_passes}
use Rattle.c_header.proofs.MaskedWrites.{taken}
use Rattle.word_groups.proofs.Slots.{each-at}
use Rattle.plain_lemmas.proofs.Lists.{get-at, get-within}
use Rattle.plain_lemmas.proofs.Numbers.{times_power-below as shifted_fits}

-- the bits from low on, so many
abbrev pub window : (low bits n : ℕ) → ℕ
window low bits n = n / 2 ^ low % 2 ^ bits

window-or : (low bits a b : ℕ) → window low bits (bit_or a b) ≡ bit_or (window low bits a) (window low bits b)
window-or low bits a b = ap (λ n. n % 2 ^ bits) (or_shr a b low) ∙ or_mod (a / 2 ^ low) (b / 2 ^ low) bits

unshifted : (x k : ℕ) → x * 2 ^ k / 2 ^ k ≡ x
unshifted x k = ap (λ n. n / 2 ^ k) (sym (add-zero (x * 2 ^ k))) ∙ div-mul-add x (2 ^ k) 0 (pow_pos k)

no_rest : (x k : ℕ) → x * 2 ^ k % 2 ^ k ≡ 0
no_rest x k = ap (λ n. n % 2 ^ k) (sym (add-zero (x * 2 ^ k))) ∙ mod-mul-add x (2 ^ k) 0 (pow_pos k)

nothing : (n k : ℕ) → n < 2 ^ k → n / 2 ^ k ≡ 0
nothing n k h = ap (λ m. m / 2 ^ k) (plain n) ∙ div-mul-add 0 (2 ^ k) n h
  where
    plain : (n : ℕ) → n ≡ 0 * 2 ^ k + n
    plain n = omega arith

-- bits of a word that stand below, above or at the window

window-below : (low bits x l n : ℕ) → x < 2 ^ n → l + n ≤ low → window low bits (x * 2 ^ l) ≡ 0
window-below low bits x l n fits h = ap (λ m. m % 2 ^ bits) (nothing (x * 2 ^ l) low (shifted_fits x n l low fits (omega (arith, h)))) ∙ mod-eq_of_lt (pow_pos bits)

window-above : (low bits x l : ℕ) → low + bits ≤ l → window low bits (x * 2 ^ l) ≡ 0
window-above low bits x l h =
    let gap : ℕ = l - (bits + low) in
    let split : l ≡ gap + bits + low = omega (arith, h) in
    let powers : x * 2 ^ l ≡ x * 2 ^ gap * 2 ^ bits * 2 ^ low = ap (λ m. x * 2 ^ m) split ∙ ap (λ m. x * m) (pow-add 2 (gap + bits) low ∙ ap (λ m. m * 2 ^ low) (pow-add 2 gap bits)) ∙ regroup x (2 ^ gap) (2 ^ bits) (2 ^ low) in
    ap (window low bits) powers ∙ ap (λ m. m % 2 ^ bits) (unshifted (x * 2 ^ gap * 2 ^ bits) low) ∙ no_rest (x * 2 ^ gap) bits
  where
    regroup : (a b c d : ℕ) → a * (b * c * d) ≡ a * b * c * d
    regroup a b c d = omega arith

window-at : (low bits x : ℕ) → x < 2 ^ bits → window low bits (x * 2 ^ low) ≡ x
window-at low bits x fits = ap (λ m. m % 2 ^ bits) (unshifted x low) ∙ mod-eq_of_lt fits

window-zero : (low bits : ℕ) → window low bits 0 ≡ 0
window-zero low bits = ap (λ m. m % 2 ^ bits) (nothing 0 low (pow_pos low)) ∙ mod-eq_of_lt (pow_pos bits)

-- what a word's slots make together

abbrev all_or : (f : Slot → ℕ) → ℕ → List Slot → ℕ
all_or f n slots = fold (λ acc s. bit_or acc (f s)) n slots

zeros : (low bits : ℕ) (f : Slot → ℕ) (n : ℕ) (slots : List Slot) → ((j : ℕ) (t : Slot) → slice_get slots j ≡ Some t → window low bits (f t) ≡ 0) → window low bits (all_or f n slots) ≡ window low bits n
zeros low bits f n [] h = refl
zeros low bits f n (s ∷ ss) h = zeros low bits f (bit_or n (f s)) ss (λ j t e. h (suc j) t e) ∙ window-or low bits n (f s) ∙ ap (bit_or (window low bits n)) (h 0 s refl) ∙ or_zero_r (window low bits n)

alone : (low bits : ℕ) (f : Slot → ℕ) (n : ℕ) (slots : List Slot) (k : ℕ) (s : Slot) → slice_get slots k ≡ Some s → ((j : ℕ) (t : Slot) → slice_get slots j ≡ Some t → (j ≡ k → ⊥) → window low bits (f t) ≡ 0)
    → window low bits (all_or f n slots) ≡ bit_or (window low bits n) (window low bits (f s))
alone low bits f n [] k s e h = cc e
alone low bits f n (t ∷ ts) zero s e h =
    let same : t ≡ s = cc e in
    zeros low bits f (bit_or n (f t)) ts (λ j u g. h (suc j) u g (λ q. let no : suc j ≡ 0 = q in cc no)) ∙ window-or low bits n (f t) ∙ ap (λ (u : Slot). bit_or (window low bits n) (window low bits (f u))) same
alone low bits f n (t ∷ ts) (suc k) s e h =
    alone low bits f (bit_or n (f t)) ts k s e (λ j u g no. h (suc j) u g (λ q. no (omega (arith, q))))
    ∙ ap (λ m. bit_or m (window low bits (f s))) (window-or low bits n (f t) ∙ ap (bit_or (window low bits n)) (h 0 t refl (λ q. let no : 0 ≡ suc k = q in cc no)) ∙ or_zero_r (window low bits n))

-- slots of a sound word

abbrev field_bits : ItemValues → Slot → View → ℕ
field_bits v s w = bits_of (v (item.Field w.field)) (s.from + s.bits - 1) s.from

bits_fit : (x from bits : ℕ) → 0 < bits → bits_of x (from + bits - 1) from < 2 ^ bits
bits_fit x from bits some = let top : from + bits - 1 - from + 1 ≡ bits = omega (arith, some) in subst (λ m. x / 2 ^ from % 2 ^ m < 2 ^ bits) (sym top) (mod-lt (x / 2 ^ from) (pow_pos bits))

value-of : (b : Block) (v : ItemValues) (s : Slot) (w : View) → slice_get b.views s.view ≡ Some w → slot_value b v s ≡ cond w.reads (field_bits v s w * 2 ^ s.low) 0
value-of b v s w e = ap (λ o. option_map_or (λ (u : View). cond u.reads (field_bits v s u * 2 ^ s.low) 0) o 0) e

passes : (b : Block) (s : Slot) (w : View) (r : Bool) → slice_get b.views s.view ≡ Some w → w.reads ≡ r → view_passes b (λ u. u.reads) s ≡ r
passes b s w r e t = ap (λ o. option_map_or (λ (u : View). u.reads) o false) e ∙ t

apart : (s t : Slot) → share_bit s t ≡ false → (s.low + s.bits ≤ t.low) ⊎ (t.low + t.bits ≤ s.low)
apart s t e = go (nat_lt s.low (t.low + t.bits)) (nat_lt t.low (s.low + s.bits)) refl refl e
  where
    go : (a c : Bool) → nat_lt s.low (t.low + t.bits) ≡ a → nat_lt t.low (s.low + s.bits) ≡ c → (a && c) ≡ false → (s.low + s.bits ≤ t.low) ⊎ (t.low + t.bits ≤ s.low)
    go false c p q e = inr (grind (arith, nat_tests))
    go true false p q e = inl (grind (arith, nat_tests))
    go true true p q e = cc e

not_shared : (c p q : Bool) → (IsTrue (c && p && q) → ⊥) → p ≡ true → q ≡ true → c ≡ false
not_shared false p q h a b = refl
not_shared true true true h a b = absurd (h refl)
not_shared true false q h a b = cc a
not_shared true true false h a b = cc b

shared_swap : (s t : Slot) → share_bit s t ≡ share_bit t s
shared_swap s t = go (nat_lt s.low (t.low + t.bits)) (nat_lt t.low (s.low + s.bits))
  where
    go : (a c : Bool) → (a && c) ≡ (c && a)
    go true true = refl
    go true false = refl
    go false true = refl
    go false false = refl

pair_at : (b : Block) (slots : List Slot) → AllPairs (StandTogether b) slots → (i j : ℕ) (s t : Slot) → i < j → slice_get slots i ≡ Some s → slice_get slots j ≡ Some t → StandTogether b s t
pair_at b slots all i j s t low es et =
    let inside = get-within slots j t et in
    let first : Some (get_or slots i s) ≡ Some s = sym (get-at slots i s (omega (arith, low, inside))) ∙ es in
    let second : Some (get_or slots j s) ≡ Some t = sym (get-at slots j s inside) ∙ et in
    let one : get_or slots i s ≡ s = cc first in
    let two : get_or slots j s ≡ t = cc second in
    subst (λ (u : Slot). StandTogether b u t) one (subst (λ (u : Slot). StandTogether b (get_or slots i s) u) two (all i j s low inside))

-- no other slot that is read has a bit of this
others : (b : Block) (w : Word) → WordIsSound b w → (i j : ℕ) (s t : Slot) → slice_get w.slots i ≡ Some s → slice_get w.slots j ≡ Some t → (j ≡ i → ⊥)
    → view_passes b (λ u. u.reads) s ≡ true → view_passes b (λ u. u.reads) t ≡ true → share_bit s t ≡ false
others b w h i j s t es et differ rs rt = go (order i j differ)
  where
    order : (i j : ℕ) → (j ≡ i → ⊥) → (i < j) ⊎ (j < i)
    order i j differ = grind arith

    go : (i < j) ⊎ (j < i) → share_bit s t ≡ false
    go (inl low) = not_shared (share_bit s t) _ _ (pair_at b w.slots h.together i j s t low es et).one_reads rs rt
    go (inr low) = shared_swap s t ∙ not_shared (share_bit t s) _ _ (pair_at b w.slots h.together j i t s low et es).one_reads rt rs

other_window : (b : Block) (v : ItemValues) (w : Word) (h : WordIsSound b w) (i j : ℕ) (s t : Slot) → slice_get w.slots i ≡ Some s → slice_get w.slots j ≡ Some t → (j ≡ i → ⊥)
    → view_passes b (λ u. u.reads) s ≡ true → window s.low s.bits (slot_value b v t) ≡ 0
other_window b v w h i j s t es et differ rs =
    let sound = each-at (SlotIsSound b w) w.slots j t h.slots et in
    let u = sound.view in
    ap (window s.low s.bits) (value-of b v t u sound.of_view) ∙ go u.reads sound refl
  where
    go : (r : Bool) → (sound : SlotIsSound b w t) → sound.view.reads ≡ r → window s.low s.bits (cond r (field_bits v t sound.view * 2 ^ t.low) 0) ≡ 0
    go false sound e = window-zero s.low s.bits
    go true sound e = by sound (apart s t (others b w h i j s t es et differ rs (passes b t sound.view true sound.of_view e)))
      where
        by : (sound : SlotIsSound b w t) → (s.low + s.bits ≤ t.low) ⊎ (t.low + t.bits ≤ s.low) → window s.low s.bits (field_bits v t sound.view * 2 ^ t.low) ≡ 0
        by sound (inl above) = window-above s.low s.bits (field_bits v t sound.view) t.low above
        by sound (inr below) = window-below s.low s.bits (field_bits v t sound.view) t.low t.bits (bits_fit (v (item.Field sound.view.field)) t.from t.bits sound.some_bit) below

pub masked_part : (b : Block) (v : ItemValues) (i : ℕ) (w : Word) (k : ℕ) (s : Slot) (u : View) → WordIsSound b w → slice_get b.reads i ≡ Some w → slice_get w.slots k ≡ Some s → slice_get b.views s.view ≡ Some u → u.reads ≡ true
    → bit_and (read_data b v (Read i)) ((2 ^ s.bits - 1) * 2 ^ s.low) / 2 ^ s.low ≡ field_bits v s u
masked_part b v i w k s u h at es eu reads =
    let sound = each-at (SlotIsSound b w) w.slots k s h.slots es in
    let given = all_or (slot_value b v) 0 w.slots in
    let fits = bits_fit (v (item.Field u.field)) s.from s.bits sound.some_bit in
    ap (λ o. bit_and (all_or (slot_value b v) 0 (option_map_or (λ (x : Word). x.slots) o [])) ((2 ^ s.bits - 1) * 2 ^ s.low) / 2 ^ s.low) at
    ∙ ap (λ n. n / 2 ^ s.low) (taken given s.bits s.low)
    ∙ unshifted (window s.low s.bits given) s.low
    ∙ alone s.low s.bits (slot_value b v) 0 w.slots k s es (λ j t et no. other_window b v w h k j s t es et no (passes b s u true eu reads))
    ∙ (λ x. bit_or (window-zero s.low s.bits x) (window s.low s.bits (value-of b v s u eu x)))
    ∙ (λ x. bit_or 0 (window s.low s.bits (cond (reads x) (field_bits v s u * 2 ^ s.low) 0)))
    ∙ ap (bit_or 0) (window-at s.low s.bits (field_bits v s u) fits)
    ∙ or_comm 0 (field_bits v s u) ∙ or_zero_r (field_bits v s u)
