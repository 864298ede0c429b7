-- The parts of a sound block's word have all effects of their slots.
use Rattle.std.proofs.Common.{◌≡◌, ◌∙◌, ℕ, zero, suc, ◌+◌, ◌≤◌, true, cond, nat_le, nat_lt, ◌&&◌, List, [], ◌∷◌, ◌++◌, flat_map, Some, slice_get, sym, ap, arith}
use Rattle.std.proofs.lemmas.Bool.Decides.{nat_tests}
use Rattle.block_effects.specs.Effects.{effects}
use Rattle.manual_sections.specs.Rows.{all_effects, field_effects, fits, part_effects, view_effects}
use Rattle.rb_model.specs.declared.block.Block.{Block}
use Rattle.rb_model.specs.declared.block.Field.{Field}
use Rattle.rb_model.specs.declared.block.Slot.{Slot}
use Rattle.rb_model.specs.declared.block.View.{View}
use Rattle.rb_model.specs.declared.block.Word.{Word}
use Rattle.rb_model.specs.References.{Each}
use Rattle.rb_model.specs.Sound.{IsSound, SlotIsSound, WordIsSound}
use Rattle.rb_model.specs.SoundField.{FieldIsSoundIn}
use Rattle.rb_model.proofs.Eachs.{Each-from_zero}
use Rattle.word_groups.specs.Parts.{part, part_of, parts}
use Rattle.word_groups.proofs.SlotParts.{one_part}

narrow : (b : Block) → IsSound b → (k : ℕ) (f : Field) → slice_get b.fields k ≡ Some f → f.width ≤ 64
narrow b sound k f e = (Each-from_zero (FieldIsSoundIn b) b.fields k f sound.fields e).alone.wide.1

module _ (b : Block) (sound : IsSound b) (w : Word) where
  part-fits : (s : Slot) (h : SlotIsSound b w s) → fits (part s h.view h.field) h.field ≡ true
  part-fits s h =
      let some = h.some_bit in
      let inside = h.in_field in
      let small = narrow b sound h.view.field h.field h.of_field in
      let first : nat_lt 0 s.bits ≡ true = grind (arith, nat_tests, some) in
      let second : nat_le (s.from + s.bits) 64 ≡ true = grind (arith, nat_tests, inside, small) in
      let third : nat_le h.field.width 64 ≡ true = grind (arith, nat_tests, small) in
      λ i. first i && second i && third i

  part-listed : (s : Slot) (h : SlotIsSound b w s) → part_effects b (part s h.view h.field) ≡ effects s h.view h.field
  part-listed s h =
      let p = part s h.view h.field in
      ap (view_effects b p) h.of_view ∙ ap (field_effects p h.view) h.of_field ∙ ap (λ t. cond t (effects s h.view h.field) []) (part-fits s h)

  listed : (slots : List Slot) → Each (SlotIsSound b w) slots → (k : ℕ) (s : Slot) (v : View) (f : Field) → slice_get slots k ≡ Some s → slice_get b.views s.view ≡ Some v → slice_get b.fields v.field ≡ Some f
      → slice_get (all_effects b (flat_map (part_of b) slots)) k ≡ Some (effects s v f)
  listed [] h k s v f e ev ef = cc e
  listed (t ∷ ts) h zero s v f e ev ef =
      let same : t ≡ s = cc e in
      let of_view : Some h.0.view ≡ Some v = sym h.0.of_view ∙ ap (λ (u : Slot). slice_get b.views u.view) same ∙ ev in
      let view : h.0.view ≡ v = cc of_view in
      let of_field : Some h.0.field ≡ Some f = sym h.0.of_field ∙ ap (λ (u : View). slice_get b.fields u.field) view ∙ ef in
      let field : h.0.field ≡ f = cc of_field in
      ap (λ ps. slice_get (all_effects b (ps ++ flat_map (part_of b) ts)) 0) (one_part b w t h.0) ∙ ap Some (part-listed t h.0) ∙ (λ i. Some (effects (same i) (view i) (field i)))
  listed (t ∷ ts) h (suc k) s v f e ev ef =
      ap (λ ps. slice_get (all_effects b (ps ++ flat_map (part_of b) ts)) (suc k)) (one_part b w t h.0) ∙ listed ts h.1 k s v f e ev ef

pub all-listed : (b : Block) (w : Word) (k : ℕ) (s : Slot) (v : View) (f : Field) → IsSound b → WordIsSound b w → slice_get w.slots k ≡ Some s → slice_get b.views s.view ≡ Some v → slice_get b.fields v.field ≡ Some f
    → slice_get (all_effects b (parts b w)) k ≡ Some (effects s v f)
all-listed b w k s v f sound h e ev ef = listed b sound w w.slots h.slots k s v f e ev ef
