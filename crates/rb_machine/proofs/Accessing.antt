-- What an access does to a field, over all slots of its word.
use Rattle.std.proofs.Common.{◌≡◌, ℕ, ◌==◌, Bool, true, false, ◌&&◌, ◌||◌, if◌then◌else◌, Option, Some, None, List, [], ◌∷◌, fold, slice_get, refl, sym, ap, ◌∙◌}
use Rattle.std.specs.List.{list_any}
use Rattle.std.specs.Option.{option_map_or}
use Rattle.std.proofs.lemmas.Map.Views.{exact_unsigned_eq}
use Rattle.rb_model.specs.declared.block.Block.{Block}
use Rattle.rb_model.specs.declared.block.Field.{Field}
use Rattle.rb_model.specs.declared.block.View.{View}
use Rattle.rb_model.specs.declared.block.Slot.{Slot}
use Rattle.rb_model.specs.declared.block.Word.{Word}
use Rattle.rb_model.specs.Effects.{acts, after_read, after_write, has_read_effect}
use Rattle.rb_model.specs.Kept.{Done, of_field}
use Rattle.rb_model.specs.Items.{Access, NoAccess, Read, Write, Now, ItemValues, shows, slots_of}
use Rattle.rb_model.specs.Machine.{of_view, slot_bits, software, uses_up, view_gate}
use Rattle.rb_machine.specs.declared.sight.FieldState.{FieldState}
use Rattle.rb_machine.specs.declared.scene.Strobes.{Strobes}
use Rattle.rb_machine.specs.Scene.{AreStrobes, mark_at, no_mark}
use Rattle.rb_machine.specs.Slots.{access_state, read_mark, read_state, touched, touched_by, width_at, write_mark, write_state}

or_assoc : (a b c : Bool) → ((a || b) || c) ≡ (a || (b || c))
or_assoc true b c = refl
or_assoc false b c = refl

or_false : (a : Bool) → a ≡ (a || false)
or_false true = refl
or_false false = refl

one_of : (a c : Bool) (y : ℕ) → (if c then 1 else (if a then 1 else y)) ≡ (if a || c then 1 else y)
one_of true true y = refl
one_of true false y = refl
one_of false c y = refl

module _ {X : Type 0} (b : Block) (k : ℕ) (g : View → Slot → X → X) where
  -- a test that slots add to
  any_touch : (pick : X → Bool) (test : View → Bool) → ((w : View) (s : Slot) (x : X) → w.field ≡ k → pick (g w s x) ≡ (pick x || test w))
      → (x : X) (s : Slot) → pick (touched b k g x s) ≡ (pick x || shows b k test s)
  any_touch pick test h x s = by (slice_get b.views s.view)
    where
      at : (w : View) (c : Bool) → (w.field == k) ≡ c → pick (if c then g w s x else x) ≡ (pick x || (c && test w))
      at w true e = h w s x (exact_unsigned_eq _ _ e)
      at w false e = or_false (pick x)

      by : (o : Option View) → pick (option_map_or (λ w. if w.field == k then g w s x else x) o x) ≡ (pick x || option_map_or (λ w. w.field == k && test w) o false)
      by None = or_false (pick x)
      by (Some w) = at w (w.field == k) refl

  pub any_touched : (pick : X → Bool) (test : View → Bool) → ((w : View) (s : Slot) (x : X) → w.field ≡ k → pick (g w s x) ≡ (pick x || test w))
      → (x : X) (ss : List Slot) → pick (touched_by b k g x ss) ≡ (pick x || list_any (shows b k test) ss)
  any_touched pick test h x [] = or_false (pick x)
  any_touched pick test h x (s ∷ ss) =
      any_touched pick test h (touched b k g x s) ss
      ∙ (ap (λ c. c || list_any (shows b k test) ss) (any_touch pick test h x s) ∙ or_assoc (pick x) (shows b k test s) (list_any (shows b k test) ss))

  -- a number that slots make 1 where a test holds of one
  one_touch : (pick : X → ℕ) (test : View → Bool) → ((w : View) (s : Slot) (x : X) → w.field ≡ k → pick (g w s x) ≡ (if test w then 1 else pick x))
      → (x : X) (s : Slot) → pick (touched b k g x s) ≡ (if shows b k test s then 1 else pick x)
  one_touch pick test h x s = by (slice_get b.views s.view)
    where
      at : (w : View) (c : Bool) → (w.field == k) ≡ c → pick (if c then g w s x else x) ≡ (if c && test w then 1 else pick x)
      at w true e = h w s x (exact_unsigned_eq _ _ e)
      at w false e = refl

      by : (o : Option View) → pick (option_map_or (λ w. if w.field == k then g w s x else x) o x) ≡ (if option_map_or (λ w. w.field == k && test w) o false then 1 else pick x)
      by None = refl
      by (Some w) = at w (w.field == k) refl

  pub one_touched : (pick : X → ℕ) (test : View → Bool) → ((w : View) (s : Slot) (x : X) → w.field ≡ k → pick (g w s x) ≡ (if test w then 1 else pick x))
      → (x : X) (ss : List Slot) → pick (touched_by b k g x ss) ≡ (if list_any (shows b k test) ss then 1 else pick x)
  one_touched pick test h x [] = refl
  one_touched pick test h x (s ∷ ss) =
      one_touched pick test h (touched b k g x s) ss
      ∙ (ap (λ y. if list_any (shows b k test) ss then 1 else y) (one_touch pick test h x s) ∙ one_of (shows b k test s) (list_any (shows b k test) ss) (pick x))

  -- a number that slots change
  number_touch : (pick : X → ℕ) (step : View → Slot → ℕ → ℕ) → ((w : View) (s : Slot) (x : X) → w.field ≡ k → pick (g w s x) ≡ step w s (pick x))
      → (x : X) (s : Slot) → pick (touched b k g x s) ≡ of_view b k s (pick x) (λ w. step w s (pick x))
  number_touch pick step h x s = by (slice_get b.views s.view)
    where
      at : (w : View) (c : Bool) → (w.field == k) ≡ c → pick (if c then g w s x else x) ≡ (if c then step w s (pick x) else pick x)
      at w true e = h w s x (exact_unsigned_eq _ _ e)
      at w false e = refl

      by : (o : Option View) → pick (option_map_or (λ w. if w.field == k then g w s x else x) o x) ≡ option_map_or (λ w. if w.field == k then step w s (pick x) else pick x) o (pick x)
      by None = refl
      by (Some w) = at w (w.field == k) refl

  pub number_touched : (pick : X → ℕ) (step : View → Slot → ℕ → ℕ) → ((w : View) (s : Slot) (x : X) → w.field ≡ k → pick (g w s x) ≡ step w s (pick x))
      → (x : X) (ss : List Slot) → pick (touched_by b k g x ss) ≡ fold (λ y s. of_view b k s y (λ w. step w s y)) (pick x) ss
  number_touched pick step h x [] = refl
  number_touched pick step h x (s ∷ ss) =
      number_touched pick step h (touched b k g x s) ss ∙ ap (λ y. fold (λ y s. of_view b k s y (λ w. step w s y)) y ss) (number_touch pick step h x s)

  -- a number that they leave
  stays_touch : (pick : X → ℕ) → ((w : View) (s : Slot) (x : X) → pick (g w s x) ≡ pick x) → (x : X) (s : Slot) → pick (touched b k g x s) ≡ pick x
  stays_touch pick h x s = by (slice_get b.views s.view)
    where
      at : (w : View) (c : Bool) → pick (if c then g w s x else x) ≡ pick x
      at w true = h w s x
      at w false = refl

      by : (o : Option View) → pick (option_map_or (λ w. if w.field == k then g w s x else x) o x) ≡ pick x
      by None = refl
      by (Some w) = at w (w.field == k)

  pub stays_touched : (pick : X → ℕ) → ((w : View) (s : Slot) (x : X) → pick (g w s x) ≡ pick x) → (x : X) (ss : List Slot) → pick (touched_by b k g x ss) ≡ pick x
  stays_touched pick h x [] = refl
  stays_touched pick h x (s ∷ ss) = stays_touched pick h (touched b k g x s) ss ∙ stays_touch pick h x s

pub slots_at : (ws : List Word) (i : ℕ) (w : Word) → slice_get ws i ≡ Some w → slots_of ws i ≡ w.slots
slots_at ws i w e = ap (λ o. option_map_or (λ w. w.slots) o []) e

-- the marks of a read, and of a write
pub read_marks : (b : Block) (i : ℕ) (w : Word) (cleared marks : List Strobes) → slice_get b.reads i ≡ Some w → ((k : ℕ) → mark_at cleared k ≡ no_mark)
    → ((k : ℕ) → mark_at marks k ≡ touched_by b k read_mark (mark_at cleared k) w.slots) → AreStrobes b (Read i) marks
read_marks b i w cleared marks here none h = record {
  modified = λ k. ap (λ m. m.modified) (at k) ∙ any_touched b k read_mark (λ m. m.modified) (λ w. has_read_effect w.on_read) (λ w s x e. refl) no_mark (slots_of b.reads i);
  accessed = λ k. ap (λ m. m.accessed) (at k) ∙ any_touched b k read_mark (λ m. m.accessed) (λ w. w.reads) (λ w s x e. refl) no_mark (slots_of b.reads i);
}
  where
    at : (k : ℕ) → mark_at marks k ≡ touched_by b k read_mark no_mark (slots_of b.reads i)
    at k = h k ∙ (ap (λ m. touched_by b k read_mark m w.slots) (none k) ∙ ap (touched_by b k read_mark no_mark) (sym (slots_at b.reads i w here)))

pub write_marks : (b : Block) (i d : ℕ) (w : Word) (cleared marks : List Strobes) → slice_get b.writes i ≡ Some w → ((k : ℕ) → mark_at cleared k ≡ no_mark)
    → ((k : ℕ) → mark_at marks k ≡ touched_by b k write_mark (mark_at cleared k) w.slots) → AreStrobes b (Write i d) marks
write_marks b i d w cleared marks here none h = record {
  modified = λ k. ap (λ m. m.modified) (at k) ∙ any_touched b k write_mark (λ m. m.modified) (λ w. w.writes) (λ w s x e. refl) no_mark (slots_of b.writes i);
  accessed = λ k. ap (λ m. m.accessed) (at k) ∙ any_touched b k write_mark (λ m. m.accessed) (λ w. w.writes) (λ w s x e. refl) no_mark (slots_of b.writes i);
}
  where
    at : (k : ℕ) → mark_at marks k ≡ touched_by b k write_mark no_mark (slots_of b.writes i)
    at k = h k ∙ (ap (λ m. touched_by b k write_mark m w.slots) (none k) ∙ ap (touched_by b k write_mark no_mark) (sym (slots_at b.writes i w here)))

-- what an access makes of a field is what software makes of it
module _ (b : Block) (n : Now) (v : ItemValues) (k : ℕ) (f : Field) (here : slice_get b.fields k ≡ Some f) where
  wide : (m : ℕ) → m ≡ k → width_at b m ≡ f.width
  wide m e = ap (λ j. of_field b j 0 (λ f. f.width)) e ∙ ap (λ o. option_map_or (λ f. f.width) o 0) here

  pub software_value : (a : Access) (x : FieldState) → (access_state b n v a k x).value ≡ software b n v a k f x.value
  software_value NoAccess x = refl
  software_value (Read i) x = number_touched b k (read_state b) (λ x. x.value) (λ w s y. after_read w.on_read f.width y)
      (λ w s x e. ap (λ m. after_read w.on_read m x.value) (wide w.field e)) x (slots_of b.reads i)
  software_value (Write i d) x = number_touched b k (write_state b n v d) (λ x. x.value) (λ w s y. after_write w f.width (view_gate n v w) (n.kept (Done k)) y (slot_bits s d))
      (λ w s x e. ap (λ m. after_write w m (view_gate n v w) (n.kept (Done w.field)) x.value (slot_bits s d)) (wide w.field e)
      ∙ ap (λ j. after_write w f.width (view_gate n v w) (n.kept (Done j)) x.value (slot_bits s d)) e) x (slots_of b.writes i)

  pub software_last : (a : Access) (x : FieldState) → (access_state b n v a k x).last ≡ x.last
  software_last NoAccess x = refl
  software_last (Read i) x = stays_touched b k (read_state b) (λ x. x.last) (λ w s x. refl) x (slots_of b.reads i)
  software_last (Write i d) x = stays_touched b k (write_state b n v d) (λ x. x.last) (λ w s x. refl) x (slots_of b.writes i)

  pub software_done : (a : Access) (x : FieldState) → (access_state b n v a k x).done ≡ (if uses_up b n v a k then 1 else x.done)
  software_done NoAccess x = refl
  software_done (Read i) x = stays_touched b k (read_state b) (λ x. x.done) (λ w s x. refl) x (slots_of b.reads i)
  software_done (Write i d) x = one_touched b k (write_state b n v d) (λ x. x.done) (λ w. w.once && acts w (view_gate n v w) (n.kept (Done k)))
      (λ w s x e. ap (λ j. if w.once && acts w (view_gate n v w) (n.kept (Done j)) then 1 else x.done) e) x (slots_of b.writes i)
