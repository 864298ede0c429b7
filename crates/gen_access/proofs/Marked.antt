-- Which words an access does something to, word by word.
use Rattle.std.proofs.Common.{◌≡◌, ℕ, ◌+◌, ◌<◌, ◌≤◌, Bool, false, Some, List, [], ◌∷◌, ◌++◌, length, get_or, slice_get, refl, sym, ap, ◌∙◌, subst, arith, inl, inr, ◌⊎◌}
use Rattle.std.proofs.lemmas.List.{length-append, get_or_append_left, get_or_at}
use Rattle.std.proofs.lemmas.Option.{same_Some, slice_get_within}
use Rattle.plain_lemmas.proofs.Numbers.{below_next-or_same as split}
use Rattle.rb_model.specs.declared.block.Block.{Block}
use Rattle.rb_model.specs.declared.block.View.{View}
use Rattle.rb_model.specs.declared.block.Word.{Word}
use Rattle.gen_access.specs.Words.{AreMarkedWords, passes_some}

-- the marks of the first words
pub record MarkedTo (b : Block) (acts : View → Bool) (words : List Word) (marks : List Bool) (end : ℕ) : Type 0 where
  pub long : length marks ≡ end
  pub each : (j : ℕ) (w : Word) → j < end → slice_get words j ≡ Some w → get_or marks j false ≡ passes_some b acts w.slots

module _ (b : Block) (acts : View → Bool) (words : List Word) where
  pub marked_none : (marks : List Bool) → marks ≡ [] → MarkedTo b acts words marks 0
  marked_none marks e = record { long = ap length e; each = λ j w l h. absurd (omega arith) }

  pub marked_more : (marks more : List Bool) (end : ℕ) (word : Word) (mark : Bool) → slice_get words end ≡ Some word → mark ≡ passes_some b acts word.slots
      → MarkedTo b acts words marks end → more ≡ marks ++ mark ∷ [] → MarkedTo b acts words more (end + 1)
  marked_more marks more end word mark here is to added = record {
    long = ap length added ∙ length-append marks (mark ∷ []) ∙ (let l = to.long in omega arith);
    each = λ j w l h. elim (split j end l) [
      | inl below ↦ ap (λ ms. get_or ms j false) added ∙ get_or_append_left marks (mark ∷ []) false j (let e = to.long in omega arith) ∙ to.each j w below h
      | inr same ↦
          let w_is : word ≡ w = same_Some word w (sym here ∙ (ap (slice_get words) (sym same) ∙ h)) in
          ap (λ ms. get_or ms j false) added ∙ (ap (λ i. get_or (marks ++ mark ∷ []) i false) same ∙ (get_or_at marks mark [] false end to.long ∙ (is ∙ ap (λ v. passes_some b acts v.slots) w_is)))
    ];
  }

  pub marked_all : (marks : List Bool) (end : ℕ) → length words ≤ end → MarkedTo b acts words marks end → end ≤ length words → AreMarkedWords b acts words marks
  marked_all marks end past to low = record { long = to.long ∙ (let e : end ≡ length words = omega arith in e); each = λ j w h. to.each j w (let l = slice_get_within words j w h in omega arith) h }
