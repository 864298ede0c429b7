-- What slots in turn leave of a field, by whether they have views of it.
use Rattle.std.proofs.Common.{◌≡◌, ℕ, ◌==◌, Bool, true, false, ◌&&◌, ◌||◌, if◌then◌else◌, Option, Some, None, List, [], ◌∷◌, slice_get, refl, sym, ap, ◌∙◌}
use Rattle.std.specs.List.{list_any}
use Rattle.std.specs.Option.{option_map_or}
use Rattle.std.proofs.lemmas.Map.Views.{exact_unsigned_eq}
use Rattle.plain_lemmas.proofs.Bools.{or-left_false as or_left_false, or-right_false as or_right_false}
use Rattle.rb_model.specs.declared.block.Block.{Block}
use Rattle.rb_model.specs.declared.block.Field.{Field}
use Rattle.rb_model.specs.declared.block.View.{View}
use Rattle.rb_model.specs.declared.block.Slot.{Slot}
use Rattle.rb_model.specs.declared.block.Word.{Word}
use Rattle.rb_model.specs.Items.{Access, NoAccess, Read, Write, Now, ItemValues, shows, slots_of}
use Rattle.rb_model.specs.Machine.{is_asserted}
use Rattle.rb_model.specs.Sound.{IsSound}
use Rattle.rb_machine.specs.declared.scene.Strobes.{Strobes}
use Rattle.rb_machine.specs.declared.sight.FieldState.{FieldState}
use Rattle.rb_machine.specs.Keeping.{is_reached}
use Rattle.rb_machine.specs.Moves.{kept_state, next_state, started_state}
use Rattle.rb_machine.specs.Quiet.{is_quiet}
use Rattle.rb_machine.specs.Scene.{no_mark}
use Rattle.rb_machine.specs.Slots.{access_state, read_state, touched, touched_by, write_state}
use Rattle.rb_machine.proofs.Accessing.{slots_at}
use Rattle.rb_machine.proofs.Resting.{quiet_left}

-- some slot has a view of field k
abbrev pub has_view : Block → ℕ → List Slot → Bool
has_view b k ss = list_any (shows b k (λ w. true)) ss

module _ {X : Type 0} (b : Block) (k : ℕ) (g : View → Slot → X → X) where
  left_one : (x : X) (s : Slot) → shows b k (λ w. true) s ≡ false → touched b k g x s ≡ x
  left_one x s none = by (slice_get b.views s.view) none
    where
      at : (w : View) (c : Bool) → (c && true) ≡ false → (if c then g w s x else x) ≡ x
      at w true h = cc
      at w false h = refl

      by : (o : Option View) → option_map_or (λ w. w.field == k && true) o false ≡ false → option_map_or (λ w. if w.field == k then g w s x else x) o x ≡ x
      by None h = refl
      by (Some w) h = at w (w.field == k) h

  -- slots with no view of the field leave it
  pub left_by : (x : X) (ss : List Slot) → has_view b k ss ≡ false → touched_by b k g x ss ≡ x
  left_by x [] h = refl
  left_by x (s ∷ ss) h =
      ap (λ y. touched_by b k g y ss) (left_one x s (or_left_false (shows b k (λ w. true) s) (has_view b k ss) h)) ∙ left_by x ss (or_right_false (shows b k (λ w. true) s) (has_view b k ss) h)

  -- where each view of the field makes the same of it
  module _ (c : X) (same : (w : View) (s : Slot) (x : X) → w.field ≡ k → g w s x ≡ c) where
    stays_one : (s : Slot) → touched b k g c s ≡ c
    stays_one s = by (slice_get b.views s.view)
      where
        at : (w : View) (d : Bool) → (w.field == k) ≡ d → (if d then g w s c else c) ≡ c
        at w true e = same w s c (exact_unsigned_eq _ _ e)
        at w false e = refl

        by : (o : Option View) → option_map_or (λ w. if w.field == k then g w s c else c) o c ≡ c
        by None = refl
        by (Some w) = at w (w.field == k) refl

    stays_by : (ss : List Slot) → touched_by b k g c ss ≡ c
    stays_by [] = refl
    stays_by (s ∷ ss) = ap (λ y. touched_by b k g y ss) (stays_one s) ∙ stays_by ss

    made_one : (x : X) (s : Slot) → shows b k (λ w. true) s ≡ true → touched b k g x s ≡ c
    made_one x s some = by (slice_get b.views s.view) some
      where
        at : (w : View) (d : Bool) → (w.field == k) ≡ d → (d && true) ≡ true → (if d then g w s x else x) ≡ c
        at w true e h = same w s x (exact_unsigned_eq _ _ e)
        at w false e h = cc

        by : (o : Option View) → option_map_or (λ w. w.field == k && true) o false ≡ true → option_map_or (λ w. if w.field == k then g w s x else x) o x ≡ c
        by None h = cc
        by (Some w) h = at w (w.field == k) refl h

    pub made_by : (x : X) (ss : List Slot) → has_view b k ss ≡ true → touched_by b k g x ss ≡ c
    made_by x [] h = cc
    made_by x (s ∷ ss) h = by (shows b k (λ w. true) s) refl (λ some. made_by (touched b k g x s) ss some)
      where
        by : (d : Bool) → shows b k (λ w. true) s ≡ d → (has_view b k ss ≡ true → touched_by b k g (touched b k g x s) ss ≡ c) → touched_by b k g x (s ∷ ss) ≡ c
        by true e rest = ap (λ y. touched_by b k g y ss) (made_one x s e) ∙ stays_by ss
        by false e rest = rest (sym (ap (λ d. d || has_view b k ss) e) ∙ h)

-- an access reaches the fields that its word has views of
pub read_reaches : (b : Block) (k i : ℕ) (w : Word) → slice_get b.reads i ≡ Some w → is_reached b (Read i) k ≡ has_view b k w.slots
read_reaches b k i w here = ap (has_view b k) (slots_at b.reads i w here)

pub write_reaches : (b : Block) (k i d : ℕ) (w : Word) → slice_get b.writes i ≡ Some w → is_reached b (Write i d) k ≡ has_view b k w.slots
write_reaches b k i d w here = ap (has_view b k) (slots_at b.writes i w here)

unreached : (b : Block) (n : Now) (v : ItemValues) (k : ℕ) (x : FieldState) (a : Access) → is_reached b a k ≡ false → access_state b n v a k x ≡ x
unreached b n v k x NoAccess none = refl
unreached b n v k x (Read i) none = left_by b k (read_state b) x (slots_of b.reads i) none
unreached b n v k x (Write i d) none = left_by b k (write_state b n v d) x (slots_of b.writes i) none

-- a quiet field that the access doesn't reach keeps what it had
pub still_left : (b : Block) → IsSound b → (n : Now) (v : ItemValues) (k : ℕ) (f : Field) → slice_get b.fields k ≡ Some f → is_quiet f ≡ true → is_asserted b n.pins f.reset_by ≡ false → (x : FieldState) → kept_state f x ≡ x
    → (a : Access) → is_reached b a k ≡ false → (new : FieldState) → new ≡ next_state b n v k f (access_state b n v a k (started_state n v k f x)) → x ≡ new
still_left b sound n v k f here q calm x kept a none new is = sym (is ∙ (sym (quiet_left b sound n v k f here q calm x kept a) ∙ unreached b n v k x a none))

-- the marks of a word's fields taken away, where no other field is marked
pub unmarked : (b : Block) (k : ℕ) (ss : List Slot) (old new : Strobes) → (has_view b k ss ≡ false → old ≡ no_mark) → new ≡ touched_by b k (λ w s m. no_mark) old ss → new ≡ no_mark
unmarked b k ss old new none is = by (has_view b k ss) refl
  where
    by : (d : Bool) → has_view b k ss ≡ d → new ≡ no_mark
    by true e = is ∙ made_by b k (λ w s m. no_mark) no_mark (λ w s m here. refl) old ss e
    by false e = is ∙ (left_by b k (λ w s m. no_mark) old ss e ∙ none e)
