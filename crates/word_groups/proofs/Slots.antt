-- The slots of a sound block's words fit.
use Rattle.std.proofs.Common.{◌≡◌, ⊎_elim, ℕ, zero, suc, ◌+◌, ◌<◌, ◌≤◌, List, [], ◌∷◌, ◌++◌, append_assoc, flat_map, get_or, map, slice_get, take, Option, Some, sym, ap, ◌∙◌, subst, arith, length}
use Rattle.std.specs.List.{enumerate_from}
use Rattle.std.proofs.lemmas.List.{map-append}
use Rattle.rb_model.specs.declared.block.Block.{Block}
use Rattle.rb_model.specs.declared.block.Field.{Field}
use Rattle.rb_model.specs.declared.block.Slot.{Slot}
use Rattle.rb_model.specs.declared.block.View.{View}
use Rattle.rb_model.specs.declared.block.Word.{Word}
use Rattle.rb_model.specs.References.{Each}
use Rattle.rb_model.specs.Sound.{IsSound, SlotIsSound, WordIsSound}
use Rattle.rb_model.specs.SoundField.{FieldIsSoundIn}
use Rattle.rb_model.proofs.PortLists.{flat_map-numbered}
use Rattle.word_groups.specs.declared.entries.Entry.{Entry}
use Rattle.word_groups.specs.Entries.{other_word, single, words_at}
use Rattle.word_groups.specs.Parts.{SlotFits, SlotsFit}
use Rattle.plain_lemmas.proofs.Lists.{get-at}

pub each-at : {X : Type 0} (P : X → Type 0) (xs : List X) (k : ℕ) (x : X) → Each P xs → slice_get xs k ≡ Some x → P x
each-at P [] k x h e = cc e
each-at P (y ∷ ys) zero x h e = let same : y ≡ x = cc e in subst P same h.0
each-at P (y ∷ ys) (suc k) x h e = each-at P ys k x h.1 e

numbered-at : {X : Type 0} (P : ℕ × X → Type 0) (n : ℕ) (xs : List X) (k : ℕ) (x : X) → Each P (enumerate_from n xs) → slice_get xs k ≡ Some x → P (n + k, x)
numbered-at P n [] k x h e = cc e
numbered-at {X = X} P n (y ∷ ys) zero x h e = let same : y ≡ x = cc e in let at : n ≡ n + 0 = omega arith in subst (λ (z : X). P (n + 0, z)) same (subst (λ (m : ℕ). P (m, y)) at h.0)
numbered-at P n (y ∷ ys) (suc k) x h e = let at : n + 1 + k ≡ n + suc k = omega arith in subst (λ (m : ℕ). P (m, x)) at (numbered-at P (n + 1) ys k x h.1 e)

narrow : (b : Block) → IsSound b → (k : ℕ) (f : Field) → slice_get b.fields k ≡ Some f → f.width ≤ 64
narrow b sound k f e = (numbered-at (FieldIsSoundIn b) 0 b.fields k f sound.fields e).alone.wide.1

wide : (b : Block) (w : Word) → WordIsSound b w → w.width ≤ 32
wide b w s = ⊎_elim (λ e. omega (arith, e)) (λ r. ⊎_elim (λ e. omega (arith, e)) (λ e. omega (arith, e)) r) s.wide

one_of : {X : Type 0} (o : Option X) (x y : X) → o ≡ Some x → o ≡ Some y → x ≡ y
one_of o x y e f = let same : Some x ≡ Some y = sym e ∙ f in cc same

slot_fits : (b : Block) → IsSound b → (w : Word) → WordIsSound b w → (s : Slot) → SlotIsSound b w s → SlotFits b s
slot_fits b sound w ws s h = record {
  some_bit = h.some_bit;
  in_word = let wide = wide b w ws in let inside = h.in_word in omega (arith, wide, inside);
  in_field = λ v f ev ef.
      let view = one_of (slice_get b.views s.view) v h.view ev h.of_view in
      let field = one_of (slice_get b.fields v.field) f h.field ef (ap (λ (u : View). slice_get b.fields u.field) view ∙ h.of_field) in
      let small = narrow b sound v.field f ef in
      let inside = h.in_field in
      let same = ap (λ (g : Field). g.width) field in
      omega (arith, small, inside, same);
}

pub word_fits : (b : Block) → IsSound b → (w : Word) → WordIsSound b w → SlotsFit b w.slots
word_fits b sound w h k s e = slot_fits b sound w h s (each-at (SlotIsSound b w) w.slots k s h.slots e)

pub read_fits : (b : Block) → IsSound b → (k : ℕ) (w : Word) → slice_get b.reads k ≡ Some w → SlotsFit b w.slots
read_fits b sound k w e = word_fits b sound w (each-at (WordIsSound b) b.reads k w sound.reads e)

pub write_fits : (b : Block) → IsSound b → (k : ℕ) (w : Word) → slice_get b.writes k ≡ Some w → SlotsFit b w.slots
write_fits b sound k w e = word_fits b sound w (each-at (WordIsSound b) b.writes k w sound.writes e)

-- the word of a read, and that of the write at its address

pub read_at : (b : Block) → IsSound b → (k : ℕ) (w : Word) → k < length b.reads → w ≡ get_or b.reads k w → SlotsFit b w.slots
read_at b sound k w low at = read_fits b sound k w (get-at b.reads k w low ∙ ap Some (sym at))

pub writes_at : (b : Block) → IsSound b → (k : ℕ) (o : Option Word) → o ≡ slice_get b.writes k → (w : Word) → o ≡ Some w → SlotsFit b w.slots
writes_at b sound k o e w is = write_fits b sound k w (sym e ∙ is)

pub singles-more : (b : Block) (k : ℕ) (w : Word) (old mid new : List Entry) → k < length b.reads → w ≡ get_or b.reads k w → old ≡ map (single b) (flat_map (words_at b) (enumerate_from 0 (take k b.reads)))
    → mid ≡ old ++ single b w ∷ [] → new ≡ mid ++ map (single b) (other_word w (slice_get b.writes k)) → new ≡ map (single b) (flat_map (words_at b) (enumerate_from 0 (take (k + 1) b.reads)))
singles-more b k w old mid new low at is first second =
    let before = flat_map (words_at b) (enumerate_from 0 (take k b.reads)) in
    let others = map (single b) (other_word w (slice_get b.writes k)) in
    second ∙ ap (λ us. us ++ others) (first ∙ ap (λ us. us ++ single b w ∷ []) is) ∙ append_assoc (map (single b) before) (single b w ∷ []) others
    ∙ sym (ap (map (single b)) (flat_map-numbered (words_at b) b.reads k w low at) ∙ map-append (single b) before (words_at b (k, w)))
