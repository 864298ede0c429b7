-- Each slot of a sound word has its part.
use Rattle.std.proofs.Common.{◌≡◌, ◌∙◌, ℕ, zero, suc, ◌==◌, List, [], ◌∷◌, ◌++◌, flat_map, slice_get, None, Some, refl, ap, subst}
use Rattle.rb_model.specs.declared.block.Block.{Block}
use Rattle.rb_model.specs.declared.block.Field.{Field}
use Rattle.rb_model.specs.declared.block.Slot.{Slot}
use Rattle.rb_model.specs.declared.block.View.{View}
use Rattle.rb_model.specs.declared.block.Word.{Word}
use Rattle.rb_model.specs.References.{Each}
use Rattle.rb_model.specs.Sound.{SlotIsSound, WordIsSound}
use Rattle.word_groups.specs.declared.parts.Part.{Part}
use Rattle.c_header.specs.Laws.{IsPartOf}
use Rattle.word_groups.specs.Parts.{part, part_of, parts}
use Rattle.plain_lemmas.proofs.Bools.{and-left}
use Rattle.plain_lemmas.proofs.Numbers.{eq-same}
use Rattle.word_groups.proofs.SlotParts.{one_part}

says : (b : Block) (s : Slot) (v : View) (f : Field) → IsPartOf b s (part s v f)
says b s v f = record {
  shift = refl;
  bits = refl;
  mask = refl;
  from = refl;
  whole = λ t. eq-same s.from 0 (and-left (s.from == 0) (s.bits == f.width) t);
}

part_at : (b : Block) (w : Word) (slots : List Slot) (k : ℕ) (s : Slot) → Each (SlotIsSound b w) slots → slice_get slots k ≡ Some s
    → (p : Part) × (slice_get (flat_map (part_of b) slots) k ≡ Some p) × IsPartOf b s p
part_at b w [] k s h e = cc e
part_at b w (t ∷ ts) zero s h e =
    let same : t ≡ s = cc e in
    (part t h.0.view h.0.field, ap (λ (ps : List Part). slice_get (ps ++ flat_map (part_of b) ts) 0) (one_part b w t h.0), subst (λ (u : Slot). IsPartOf b u (part t h.0.view h.0.field)) same (says b t h.0.view h.0.field))
part_at b w (t ∷ ts) (suc k) s h e =
    let rest = part_at b w ts k s h.1 e in
    (rest.0, ap (λ (ps : List Part). slice_get (ps ++ flat_map (part_of b) ts) (suc k)) (one_part b w t h.0) ∙ rest.1, rest.2)

pub slot_part : (b : Block) (w : Word) → WordIsSound b w → (k : ℕ) (s : Slot) → slice_get w.slots k ≡ Some s → (p : Part) × (slice_get (parts b w) k ≡ Some p) × IsPartOf b s p
slot_part b w h k s e = part_at b w w.slots k s h.slots e
