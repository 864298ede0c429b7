-- What an access makes of a field that has no slot in the word accessed.
use Rattle.std.proofs.Common.{◌≡◌, ℕ, ◌==◌, Bool, true, false, ◌&&◌, ◌||◌, if◌then◌else◌, Option, Some, None, List, [], ◌∷◌, fold, slice_get, refl, ap, ◌∙◌}
use Rattle.std.specs.List.{list_any}
use Rattle.std.specs.Option.{option_map_or}
use Rattle.plain_lemmas.proofs.Bools.{or-neither as neither}
use Rattle.rb_model.specs.declared.block.Block.{Block}
use Rattle.rb_model.specs.declared.block.Field.{Field}
use Rattle.rb_model.specs.declared.block.View.{View}
use Rattle.rb_model.specs.declared.block.Slot.{Slot}
use Rattle.rb_model.specs.Effects.{acts, after_read, after_write}
use Rattle.rb_model.specs.Items.{Access, NoAccess, Read, Write, Now, ItemValues, shows, slots_of}
use Rattle.rb_model.specs.Kept.{Done}
use Rattle.rb_model.specs.Machine.{of_view, slot_bits, slot_read, slot_written, software, uses_up, view_gate}
use Rattle.machine_run.specs.Words.{is_accessed}

narrower : (c d : Bool) → (c && true) ≡ false → (c && d) ≡ false
narrower false d e = refl
narrower true d e = absurd (let q : true ≡ false = e in cc)

other : (c : Bool) (x y : ℕ) → (c && true) ≡ false → (if c then x else y) ≡ y
other false x y e = refl
other true x y e = absurd (let q : true ≡ false = e in cc)

module _ (b : Block) (k : ℕ) where
  passed : (s : Slot) (x : ℕ) (g : View → ℕ) → shows b k (λ w. true) s ≡ false → of_view b k s x g ≡ x
  passed s x g e = by (slice_get b.views s.view) e
    where
      by : (o : Option View) → option_map_or (λ w. w.field == k && true) o false ≡ false → option_map_or (λ w. if w.field == k then g w else x) o x ≡ x
      by None e = refl
      by (Some w) e = other (w.field == k) (g w) x e

  unshown : (test : View → Bool) (s : Slot) → shows b k (λ w. true) s ≡ false → shows b k test s ≡ false
  unshown test s e = by (slice_get b.views s.view) e
    where
      by : (o : Option View) → option_map_or (λ w. w.field == k && true) o false ≡ false → option_map_or (λ w. w.field == k && test w) o false ≡ false
      by None e = refl
      by (Some w) e = narrower (w.field == k) (test w) e

  -- slots that each leave a value alone
  unmoved : (g : ℕ → Slot → ℕ) → ((x : ℕ) (s : Slot) → shows b k (λ w. true) s ≡ false → g x s ≡ x) → (ss : List Slot) → list_any (shows b k (λ w. true)) ss ≡ false → (x : ℕ) → fold g x ss ≡ x
  unmoved g h [] e x = refl
  unmoved g h (s ∷ ss) e x =
      let p : (shows b k (λ w. true) s ≡ false) × (list_any (shows b k (λ w. true)) ss ≡ false) = neither (shows b k (λ w. true) s) (list_any (shows b k (λ w. true)) ss) e in
      ap (λ y. fold g y ss) (h x s p.0) ∙ unmoved g h ss p.1 x

  unmarked : (test : View → Bool) (ss : List Slot) → list_any (shows b k (λ w. true)) ss ≡ false → list_any (shows b k test) ss ≡ false
  unmarked test [] e = refl
  unmarked test (s ∷ ss) e =
      let p : (shows b k (λ w. true) s ≡ false) × (list_any (shows b k (λ w. true)) ss ≡ false) = neither (shows b k (λ w. true) s) (list_any (shows b k (λ w. true)) ss) e in
      ap (λ c. c || list_any (shows b k test) ss) (unshown test s p.0) ∙ unmarked test ss p.1

pub value_stays : (b : Block) (n : Now) (v : ItemValues) (access : Access) (k : ℕ) (f : Field) → is_accessed b access k ≡ false → (y : ℕ) → software b n v access k f y ≡ y
value_stays b n v NoAccess k f e y = refl
value_stays b n v (Read i) k f e y = unmoved b k (slot_read b k f) (λ x s p. passed b k s x (λ w. after_read w.on_read f.width x) p) (slots_of b.reads i) e y
value_stays b n v (Write i d) k f e y = unmoved b k (slot_written b n v k f d) (λ x s p. passed b k s x (λ w. after_write w f.width (view_gate n v w) (n.kept (Done k)) x (slot_bits s d)) p) (slots_of b.writes i) e y

pub mark_stays : (b : Block) (n : Now) (v : ItemValues) (access : Access) (k : ℕ) → is_accessed b access k ≡ false → uses_up b n v access k ≡ false
mark_stays b n v NoAccess k e = refl
mark_stays b n v (Read i) k e = refl
mark_stays b n v (Write i d) k e = unmarked b k (λ w. w.once && acts w (view_gate n v w) (n.kept (Done k))) (slots_of b.writes i) e
