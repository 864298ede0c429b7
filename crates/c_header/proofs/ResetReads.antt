-- What a read gives where each field has its reset value.
use Rattle.std.proofs.Common.{◌≡◌, ◌∙◌, ℕ, ◌+◌, ◌-◌, ◌*◌, ◌/◌, ◌%◌, ◌^◌, ◌<◌, Bool, true, false, ◌&&◌, cond, bit_or, fold, is_some, unwrap_or, List, [], ◌∷◌, ◌++◌, flat_map, slice_get, Option, None, Some, refl, sym, ap, subst, arith}
use Rattle.std.specs.List.{list_all, list_any}
use Rattle.std.specs.Option.{option_map, option_map_or}
use Rattle.rb_base.specs.Bits.{part as bits_of}
use Rattle.rb_model.specs.declared.block.Block.{Block}
use Rattle.rb_model.specs.declared.block.Field.{Field}
use Rattle.rb_model.specs.declared.block.Slot.{Slot}
use Rattle.rb_model.specs.declared.block.View.{View}
use Rattle.rb_model.specs.declared.block.Word.{Word}
use Rattle.rb_model.specs.declared.kinds.RefItem.TheVariants as item
use Rattle.rb_model.specs.Items.{ItemValues, Read}
use Rattle.rb_model.specs.Machine.{read_data, slot_value}
use Rattle.rb_model.specs.References.{Each}
use Rattle.rb_model.specs.Sound.{SlotIsSound, WordIsSound}
use Rattle.rb_model.specs.SoundField.{is_wire}
use Rattle.word_groups.specs.declared.parts.Part.{Part}
use Rattle.c_header.specs.Laws.{AreReset}
use Rattle.word_groups.specs.Parts.{part, part_of, part_reset, parts, resval, shows}
use Rattle.word_groups.proofs.SlotParts.{one_part}
use Rattle.plain_lemmas.proofs.Bools.{and-left, and-right}

abbrev view_value : ItemValues → Slot → View → ℕ
view_value v s w = cond w.reads (bits_of (v (item.Field w.field)) (s.from + s.bits - 1) s.from * 2 ^ s.low) 0

bits_are : (x from bits : ℕ) → 0 < bits → bits_of x (from + bits - 1) from ≡ x / 2 ^ from % 2 ^ bits
bits_are x from bits some = let top : from + bits - 1 - from + 1 ≡ bits = omega (arith, some) in ap (λ m. x / 2 ^ from % 2 ^ m) top

value-is : (s : Slot) (f : Field) (x : ℕ) → 0 < s.bits → ((r : ℕ) → is_wire f.class ≡ false → f.reset ≡ Some r → x ≡ r) → is_some (option_map (λ r. r * 2 ^ s.low) (part_reset s f)) ≡ true
    → bits_of x (s.from + s.bits - 1) s.from * 2 ^ s.low ≡ unwrap_or (option_map (λ r. r * 2 ^ s.low) (part_reset s f)) 0
value-is s f x some is known = ap (λ n. n * 2 ^ s.low) (bits_are x s.from s.bits some) ∙ go (is_wire f.class) f.reset refl refl known
  where
    go : (w : Bool) (o : Option ℕ) → is_wire f.class ≡ w → f.reset ≡ o → is_some (option_map (λ r. r * 2 ^ s.low) (cond w None (option_map (λ r. r / 2 ^ s.from % 2 ^ s.bits) o))) ≡ true
        → x / 2 ^ s.from % 2 ^ s.bits * 2 ^ s.low ≡ unwrap_or (option_map (λ r. r * 2 ^ s.low) (cond w None (option_map (λ r. r / 2 ^ s.from % 2 ^ s.bits) o))) 0
    go true o a e k = cc k
    go false None a e k = cc k
    go false (Some r) a e k = ap (λ n. n / 2 ^ s.from % 2 ^ s.bits * 2 ^ s.low) (is r a e)

slot_shows : (b : Block) (v : ItemValues) (w : Word) (s : Slot) (h : SlotIsSound b w s) → AreReset b v → is_some (shows s h.view h.field) ≡ true → slot_value b v s ≡ unwrap_or (shows s h.view h.field) 0
slot_shows b v w s h reset known = ap (λ o. option_map_or (view_value v s) o 0) h.of_view ∙ go h.view.reads known
  where
    go : (r : Bool) → is_some (cond r (option_map (λ n. n * 2 ^ s.low) (part_reset s h.field)) (Some 0)) ≡ true
        → cond r (bits_of (v (item.Field h.view.field)) (s.from + s.bits - 1) s.from * 2 ^ s.low) 0 ≡ unwrap_or (cond r (option_map (λ n. n * 2 ^ s.low) (part_reset s h.field)) (Some 0)) 0
    go true known = value-is s h.field (v (item.Field h.view.field)) h.some_bit (λ r. reset h.view.field h.field r h.of_field) known
    go false known = refl

reads_are : (b : Block) (v : ItemValues) (w : Word) (slots : List Slot) (n : ℕ) → Each (SlotIsSound b w) slots → AreReset b v → list_all (λ p. is_some p.shows) (flat_map (part_of b) slots) ≡ true
    → fold (λ acc s. bit_or acc (slot_value b v s)) n slots ≡ fold (λ m p. bit_or m (unwrap_or p.shows 0)) n (flat_map (part_of b) slots)
reads_are b v w [] n h reset known = refl
reads_are b v w (s ∷ ss) n h reset known =
    let one = one_part b w s h.0 in
    let p = part s h.0.view h.0.field in
    let known = subst (λ (ps : List Part). list_all (λ q. is_some q.shows) (ps ++ flat_map (part_of b) ss) ≡ true) one known in
    let here = slot_shows b v w s h.0 reset (and-left (is_some p.shows) (list_all (λ q. is_some q.shows) (flat_map (part_of b) ss)) known) in
    ap (λ m. fold (λ acc t. bit_or acc (slot_value b v t)) (bit_or n m) ss) here
    ∙ reads_are b v w ss (bit_or n (unwrap_or p.shows 0)) h.1 reset (and-right (is_some p.shows) (list_all (λ q. is_some q.shows) (flat_map (part_of b) ss)) known)
    ∙ sym (ap (λ (ps : List Part). fold (λ m q. bit_or m (unwrap_or q.shows 0)) n (ps ++ flat_map (part_of b) ss)) one)

known_all : (ps : List Part) (n : ℕ) → resval ps ≡ Some n → (list_all (λ p. is_some p.shows) ps ≡ true) × (fold (λ m p. bit_or m (unwrap_or p.shows 0)) 0 ps ≡ n)
known_all ps n e = go (list_any (λ p. p.reads) ps) (list_all (λ p. is_some p.shows) ps) refl e
  where
    go : (a c : Bool) → list_all (λ p. is_some p.shows) ps ≡ c → cond (a && c) (Some (fold (λ m p. bit_or m (unwrap_or p.shows 0)) 0 ps)) None ≡ Some n
        → (list_all (λ p. is_some p.shows) ps ≡ true) × (fold (λ m p. bit_or m (unwrap_or p.shows 0)) 0 ps ≡ n)
    go true true t e = (t, (let same : fold (λ m p. bit_or m (unwrap_or p.shows 0)) 0 ps ≡ n = cc e in same))
    go true false t e = cc e
    go false c t e = cc e

pub reset_read : (b : Block) (v : ItemValues) (i : ℕ) (w : Word) (n : ℕ) → WordIsSound b w → slice_get b.reads i ≡ Some w → AreReset b v → resval (parts b w) ≡ Some n → read_data b v (Read i) ≡ n
reset_read b v i w n s at reset e =
    let known = known_all (parts b w) n e in
    ap (λ o. fold (λ acc t. bit_or acc (slot_value b v t)) 0 (option_map_or (λ (u : Word). u.slots) o [])) at ∙ reads_are b v w w.slots 0 s.slots reset known.0 ∙ known.1
