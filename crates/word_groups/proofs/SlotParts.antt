-- What part a slot has.
use Rattle.std.proofs.Common.{◌≡◌, ◌∙◌, List, [], ◌∷◌, slice_get, None, Some, ap}
use Rattle.rb_model.specs.declared.block.Block.{Block}
use Rattle.rb_model.specs.declared.block.Field.{Field}
use Rattle.rb_model.specs.declared.block.Slot.{Slot}
use Rattle.rb_model.specs.declared.block.View.{View}
use Rattle.rb_model.specs.declared.block.Word.{Word}
use Rattle.rb_model.specs.Sound.{SlotIsSound}
use Rattle.word_groups.specs.Parts.{part, part_of, with_field, with_view}

pub one_part : (b : Block) (w : Word) (s : Slot) (h : SlotIsSound b w s) → part_of b s ≡ part s h.view h.field ∷ []
one_part b w s h = ap (with_view b s) h.of_view ∙ ap (with_field s h.view) h.of_field

pub part_found : (b : Block) (s : Slot) (v : View) (f : Field) → slice_get b.views s.view ≡ Some v → slice_get b.fields v.field ≡ Some f → part_of b s ≡ part s v f ∷ []
part_found b s v f ev ef = ap (with_view b s) ev ∙ ap (with_field s v) ef

pub no_view : (b : Block) (s : Slot) → slice_get b.views s.view ≡ None → part_of b s ≡ []
no_view b s e = ap (with_view b s) e

pub no_field : (b : Block) (s : Slot) (v : View) → slice_get b.views s.view ≡ Some v → slice_get b.fields v.field ≡ None → part_of b s ≡ []
no_field b s v ev ef = ap (with_view b s) ev ∙ ap (with_field s v) ef
