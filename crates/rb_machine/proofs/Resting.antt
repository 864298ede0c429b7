-- What a field keeps on which no hardware acts.
use Rattle.std.proofs.Common.{◌≡◌, ℕ, ◌==◌, Bool, true, false, not, ◌&&◌, ◌||◌, if◌then◌else◌, Option, Some, None, is_some, unwrap_or, List, [], ◌∷◌, codes, ◌++◌, slice_get, fold, refl, sym, ap, ◌∙◌}
use Rattle.std.specs.List.{list_any}
use Rattle.std.specs.Option.{option_map_or, option_map}
use Rattle.rb_model.specs.declared.kinds.Feed.{Feed}
use Rattle.rb_model.specs.declared.kinds.Feed.TheVariants as feed
use Rattle.rb_model.specs.declared.kinds.Latch.{Latch}
use Rattle.rb_model.specs.declared.kinds.Latch.TheVariants as latch
use Rattle.rb_model.specs.declared.kinds.OnRead.{OnRead}
use Rattle.rb_model.specs.declared.kinds.OnRead.TheVariants as on_read
use Rattle.rb_model.specs.declared.kinds.Class.TheVariants.{Storage}
use Rattle.rb_model.specs.declared.kinds.Mask.{Mask}
use Rattle.rb_model.specs.declared.kinds.Mask.TheVariants as mask
use Rattle.rb_model.specs.declared.block.Block.{Block}
use Rattle.rb_model.specs.declared.block.Field.{Field}
use Rattle.rb_model.specs.declared.block.View.{View}
use Rattle.rb_model.specs.declared.block.Slot.{Slot}
use Rattle.rb_model.specs.Effects.{acts, after_read, after_write, counted, finished, is_open, latched, loaded, loads, masked, set_or_cleared, has_read_effect, written}
use Rattle.rb_model.specs.Items.{Access, NoAccess, Read, Write, Now, ItemValues, down, fed, gated, is_interrupt, is_on, level_value, mask_value, shows, slots_of, source_value, up}
use Rattle.rb_model.specs.Kept.{Done, Last, is_storage, keeps_last}
use Rattle.rb_model.specs.Machine.{counts, hardware, is_asserted, of_view, slot_bits, slot_read, slot_written, software, uses_up, view_gate}
use Rattle.rb_model.specs.Sound.{IsSound}
use Rattle.rb_model.specs.SoundField.{FieldIsSoundIn, changes, class_of, is_changed, is_fed}
use Rattle.rb_model.proofs.Eachs.{Each-from_zero}
use Rattle.rb_model.proofs.OwnViews.{both_true, not_true}
use Rattle.rb_machine.specs.declared.sight.FieldState.{FieldState}
use Rattle.rb_machine.specs.Moves.{ended_state, kept_state, next_state, reset_state, started_state}
use Rattle.rb_machine.specs.Quiet.{is_quiet, is_spared, keeps_none}
use Rattle.rb_machine.specs.Scene.{HoldsKept, no_state, state_at}
use Rattle.rb_machine.specs.Slots.{access_state}
use Rattle.std.proofs.lemmas.Option.{get_or_from_slice_get, slice_get_within}
use Rattle.rb_machine.proofs.Resetting.{fails}
use Rattle.rb_machine.proofs.Accessing.{software_done, software_last, software_value}
use Rattle.plain_lemmas.proofs.Bools.{if-same as if_same, or-true as or_true}

pub none_of : {X : Type 0} (o : Option X) → not (is_some o) ≡ true → o ≡ None
none_of None h = refl
none_of (Some x) h = cc

pub no_latch : (l : Latch) → not (is_interrupt l) ≡ true → l ≡ latch.Off
no_latch latch.Off h = refl
no_latch (latch.Bits e) h = cc
no_latch (latch.Whole e) h = cc
no_latch latch.Plain h = cc

pub no_feed : (x : Feed) → not (is_fed x) ≡ true → x ≡ feed.Off
no_feed feed.Off h = refl
no_feed feed.Pin h = cc
no_feed (feed.Item i) h = cc

pub no_mask : (m : Mask) → not (is_on m) ≡ true → m ≡ mask.Off
no_mask mask.Off h = refl
no_mask (mask.Enable i) h = cc
no_mask (mask.Mask i) h = cc

-- what a field is that hardware spares
pub record IsSpared (f : Field) : Type 0 where
  pub class : is_storage f.class ≡ true
  pub count : f.count ≡ None
  pub latch : f.latch ≡ latch.Off
  pub pulse : f.pulse ≡ false
  pub load : loads f ≡ false
  pub set : f.set ≡ feed.Off
  pub clear : f.clear ≡ feed.Off
  pub keep : f.keep ≡ mask.Off

pub spared : (f : Field) → is_spared f ≡ true → IsSpared f
spared f h =
    let a = both_true _ _ h in
    let b = both_true _ _ a.0 in
    let c = both_true _ _ b.0 in
    let d = both_true _ _ c.0 in
    let e = both_true _ _ d.0 in
    let g = both_true _ _ e.0 in
    let i = both_true _ _ g.0 in
    record {
      class = i.0;
      count = none_of f.count i.1;
      latch = no_latch f.latch g.1;
      pulse = not_true f.pulse e.1;
      load = not_true (loads f) d.1;
      set = no_feed f.set c.1;
      clear = no_feed f.clear b.1;
      keep = no_mask f.keep a.1;
    }

-- hardware leaves its value
module _ (n : Now) (v : ItemValues) (k : ℕ) (f : Field) (q : IsSpared f) (x : ℕ) where
  unloaded : (from gate : ℕ) → loaded f x from gate ≡ x
  unloaded from gate = ap (λ p. if p then 0 else (if loads f && is_open f.gate gate then from else x)) q.pulse ∙ ap (λ l. if l && is_open f.gate gate then from else x) q.load

  uncounted : counts n v f x ≡ x
  uncounted = ap (λ o. option_map_or (λ c. counted f.width x (up n v f) (down n v f) (option_map (level_value v) c.high) (option_map (level_value v) c.low)) o x) q.count

  unlatched : (from last : ℕ) → latched f.latch f.width x from last ≡ x
  unlatched from last = ap (λ l. latched l f.width x from last) q.latch

  unset : (bits : ℕ) → finished f x x (fed n v f.set (codes "hwset$" ++ f.path)) (fed n v f.clear (codes "hwclr$" ++ f.path)) bits ≡ x
  unset bits =
      ap (λ m. masked m f.width x (set_or_cleared f.width x (fed n v f.set (codes "hwset$" ++ f.path)) (fed n v f.clear (codes "hwclr$" ++ f.path))) bits) q.keep
      ∙ (ap (λ s. set_or_cleared f.width x (fed n v s (codes "hwset$" ++ f.path)) (fed n v f.clear (codes "hwclr$" ++ f.path))) q.set
      ∙ ap (λ c. set_or_cleared f.width x 0 (fed n v c (codes "hwclr$" ++ f.path))) q.clear)

  pub hardware_rests : hardware n v k f x ≡ x
  hardware_rests =
      let source = source_value n v f in
      let gate = gated n v f.gate (codes "we$") (codes "wel$") f.path in
      let last = n.kept (Last k) in
      let set = fed n v f.set (codes "hwset$" ++ f.path) in
      let clear = fed n v f.clear (codes "hwclr$" ++ f.path) in
      let bits = mask_value v f.keep in
      ap (λ y. finished f x (latched f.latch f.width (counts n v f y) source last) set clear bits) (unloaded source gate)
      ∙ (ap (λ y. finished f x (latched f.latch f.width y source last) set clear bits) uncounted
      ∙ (ap (λ y. finished f x y set clear bits) (unlatched source last) ∙ unset bits))

and_more : (a b c : Bool) → (a && b) ≡ false → (a && (b && c)) ≡ false
and_more true true c h = cc
and_more true false c h = refl
and_more false b c h = refl

-- where no view of a field writes once, no slot does
module _ (b : Block) (k : ℕ) (none : list_any (λ w. w.field == k && w.once) b.views ≡ false) (test : View → Bool) where
  none_here : (s : Slot) → shows b k (λ w. w.once && test w) s ≡ false
  none_here s = by (slice_get b.views s.view) refl
    where
      by : (o : Option View) → slice_get b.views s.view ≡ o → option_map_or (λ w. w.field == k && (w.once && test w)) o false ≡ false
      by None e = refl
      by (Some w) e =
          and_more (w.field == k) w.once (test w) (fails (λ (u : View). u.field == k && u.once) b.views w none (s.view, slice_get_within b.views s.view w e, get_or_from_slice_get b.views s.view w w e))

  none_once : (ss : List Slot) → list_any (shows b k (λ w. w.once && test w)) ss ≡ false
  none_once [] = refl
  none_once (s ∷ ss) = ap (λ c. c || list_any (shows b k (λ w. w.once && test w)) ss) (none_here s) ∙ none_once ss

unused : (b : Block) (n : Now) (v : ItemValues) (k : ℕ) → list_any (λ w. w.field == k && w.once) b.views ≡ false → (a : Access) → uses_up b n v a k ≡ false
unused b n v k none NoAccess = refl
unused b n v k none (Read i) = refl
unused b n v k none (Write i d) = none_once b k none (λ w. acts w (view_gate n v w) (n.kept (Done k))) (slots_of b.writes i)

either : (c : Bool) (y z : ℕ) → y ≡ z → (if c then y else z) ≡ z
either true y z e = e
either false y z e = refl

or_else : (c : Bool) (y z : ℕ) → y ≡ z → (if c then z else y) ≡ z
or_else true y z e = refl
or_else false y z e = e

pub same_state : (p q : FieldState) → p.value ≡ q.value → p.last ≡ q.last → p.done ≡ q.done → p ≡ q
same_state p q e g h =
    let of : ℕ → ℕ → ℕ → FieldState = λ x y z. record { value = x; last = y; done = z } in
    ap (λ x. of x p.last p.done) e ∙ (ap (λ y. of q.value y p.done) g ∙ ap (of q.value q.last) h)

-- the mark of a write stays where the field has none, and is what software leaves where it isn't under reset
module _ (b : Block) (sound : IsSound b) (n : Now) (v : ItemValues) (k : ℕ) (f : Field) (here : slice_get b.fields k ≡ Some f) (calm : is_asserted b n.pins f.reset_by ≡ false) (x : FieldState) (kept : kept_state f x ≡ x) (a : Access) where
  abbrev alone : FieldState
  alone = access_state b n v a k x

  abbrev moved : FieldState
  moved = access_state b n v a k (started_state n v k f x)

  same_done : moved.done ≡ alone.done
  same_done = software_done b n v k f here a (started_state n v k f x) ∙ sym (software_done b n v k f here a x)

  pub done_left : alone.done ≡ (next_state b n v k f moved).done
  done_left = by f.once refl
    where
      by : (c : Bool) → f.once ≡ c → alone.done ≡ (if f.once then (if is_asserted b n.pins f.reset_by then 0 else moved.done) else 0)
      by true e =
          sym same_done ∙ (sym (ap (λ r. if r then 0 else moved.done) calm) ∙ sym (ap (λ c. if c then (if is_asserted b n.pins f.reset_by then 0 else moved.done) else 0) e))
      by false e =
          let none : list_any (λ w. w.field == k && w.once) b.views ≡ false = sym (Each-from_zero (FieldIsSoundIn b) b.fields k f sound.fields here).once ∙ e in
          software_done b n v k f here a x
          ∙ (ap (λ u. if u then 1 else x.done) (unused b n v k none a)
          ∙ (sym (ap (λ s. s.done) kept) ∙ (ap (λ c. if c then x.done else 0) e ∙ sym (ap (λ c. if c then (if is_asserted b n.pins f.reset_by then 0 else moved.done) else 0) e))))

-- a field that hardware spares, and that is not under reset, keeps what software leaves
module _ (b : Block) (sound : IsSound b) (n : Now) (v : ItemValues) (k : ℕ) (f : Field) (here : slice_get b.fields k ≡ Some f) (q : IsSpared f) (calm : is_asserted b n.pins f.reset_by ≡ false)
    (x : FieldState) (kept : kept_state f x ≡ x) (a : Access) where
  abbrev left : FieldState
  left = access_state b n v a k x

  abbrev before : FieldState
  before = access_state b n v a k (started_state n v k f x)

  abbrev after : FieldState
  after = next_state b n v k f before

  same_value : before.value ≡ left.value
  same_value =
      software_value b n v k f here a (started_state n v k f x)
      ∙ (ap (software b n v a k f) (or_else f.hw_first (hardware n v k f x.value) x.value (hardware_rests n v k f q x.value)) ∙ sym (software_value b n v k f here a x))

  value : left.value ≡ after.value
  value =
      let moved = either f.hw_first (hardware n v k f before.value) before.value (hardware_rests n v k f q before.value) in
      let end : ℕ = if f.hw_first then hardware n v k f before.value else before.value in
      sym same_value
      ∙ (sym moved ∙ (sym (ap (λ c. if c then unwrap_or f.reset end else end) calm)
      ∙ sym (ap (λ c. if c then (if is_asserted b n.pins f.reset_by then unwrap_or f.reset end else end) else 0) q.class)))

  last : left.last ≡ after.last
  last =
      software_last b n v k f here a x
      ∙ (sym (ap (λ s. s.last) kept) ∙ (ap (λ l. if keeps_last l then x.last else 0) q.latch
      ∙ sym (ap (λ l. if keeps_last l then (if is_asserted b n.pins f.reset_by then 0 else before.last) else 0) q.latch)))

  keeps_left : left ≡ after
  keeps_left = same_state left after value last (done_left b sound n v k f here calm x kept a)

-- Software changes no field but through a view that changes it.
module _ (b : Block) (n : Now) (v : ItemValues) (k : ℕ) (f : Field) (none : is_changed b k ≡ false) where
  unread : (w : View) (x : ℕ) → changes w ≡ false → after_read w.on_read f.width x ≡ x
  unread w x h = by w.on_read refl
    where
      by : (o : OnRead) → w.on_read ≡ o → after_read o f.width x ≡ x
      by on_read.Off e = refl
      by on_read.RClr e = absurd (let t : changes w ≡ true = rw e (or_true w.writes) in let z : false ≡ true = sym h ∙ t in cc)
      by on_read.RSet e = absurd (let t : changes w ≡ true = rw e (or_true w.writes) in let z : false ≡ true = sym h ∙ t in cc)

  unwritten : (w : View) (x gate done d : ℕ) → changes w ≡ false → after_write w f.width gate done x d ≡ x
  unwritten w x gate done d h = by w.writes refl
    where
      by : (c : Bool) → w.writes ≡ c → after_write w f.width gate done x d ≡ x
      by false e = ap (λ c. if c && is_open w.gate gate && not (w.once && done == 1) then written w.on_write f.width x d else x) e
      by true e = absurd (let t : changes w ≡ true = ap (λ c. c || has_read_effect w.on_read) e in let z : false ≡ true = sym h ∙ t in cc)

  -- a slot whose view leaves the value of the field leaves it
  one_slot : (g : View → ℕ) (x : ℕ) → ((w : View) → changes w ≡ false → g w ≡ x) → (s : Slot) → of_view b k s x g ≡ x
  one_slot g x same s = by (slice_get b.views s.view) refl
    where
      by : (o : Option View) → slice_get b.views s.view ≡ o → option_map_or (λ w. if w.field == k then g w else x) o x ≡ x
      by None e = refl
      by (Some w) e = at (w.field == k) (fails (λ (u : View). u.field == k && changes u) b.views w none (s.view, slice_get_within b.views s.view w e, get_or_from_slice_get b.views s.view w w e))
        where
          at : (c : Bool) → (c && changes w) ≡ false → (if c then g w else x) ≡ x
          at true h = same w h
          at false h = refl

  all_slots : (g : ℕ → Slot → ℕ) → ((x : ℕ) (s : Slot) → g x s ≡ x) → (x : ℕ) (ss : List Slot) → fold g x ss ≡ x
  all_slots g same x [] = refl
  all_slots g same x (s ∷ ss) = all_slots g same (g x s) ss ∙ same x s

  untouched : (a : Access) (x : ℕ) → software b n v a k f x ≡ x
  untouched NoAccess x = refl
  untouched (Read i) x = all_slots (slot_read b k f) (λ y s. one_slot (λ w. after_read w.on_read f.width y) y (λ w h. unread w y h) s) x (slots_of b.reads i)
  untouched (Write i d) x = all_slots (slot_written b n v k f d)
      (λ y s. one_slot (λ w. after_write w f.width (view_gate n v w) (n.kept (Done k)) y (slot_bits s d)) y (λ w h. unwritten w y (view_gate n v w) (n.kept (Done k)) (slot_bits s d) h) s) x (slots_of b.writes i)

-- a field that keeps no value is none that software changes
unchanged : (b : Block) → IsSound b → (k : ℕ) (f : Field) → slice_get b.fields k ≡ Some f → is_storage f.class ≡ false → is_changed b k ≡ false
unchanged b sound k f here c = by (is_changed b k) refl
  where
    by : (d : Bool) → is_changed b k ≡ d → d ≡ false
    by false e = refl
    by true e =
        let t : class_of b k f ≡ Storage = rw e refl in
        let z : false ≡ true = sym c ∙ ap is_storage ((Each-from_zero (FieldIsSoundIn b) b.fields k f sound.fields here).class ∙ t) in
        cc

-- Of a field that keeps nothing, nothing is left and nothing kept.
module _ (b : Block) (sound : IsSound b) (n : Now) (v : ItemValues) (k : ℕ) (f : Field) (here : slice_get b.fields k ≡ Some f) (class : is_storage f.class ≡ false) (latch : keeps_last f.latch ≡ false)
    (calm : is_asserted b n.pins f.reset_by ≡ false) (x : FieldState) (kept : kept_state f x ≡ x) (a : Access) where
  abbrev started : FieldState
  started = access_state b n v a k (started_state n v k f x)

  no_value : (access_state b n v a k x).value ≡ (next_state b n v k f started).value
  no_value =
      let end : ℕ = if f.hw_first then hardware n v k f started.value else started.value in
      software_value b n v k f here a x
      ∙ (untouched b n v k f (unchanged b sound k f here class) a x.value
      ∙ (sym (ap (λ s. s.value) kept) ∙ (ap (λ c. if c then x.value else 0) class
      ∙ sym (ap (λ c. if c then (if is_asserted b n.pins f.reset_by then unwrap_or f.reset end else end) else 0) class))))

  no_last : (access_state b n v a k x).last ≡ (next_state b n v k f started).last
  no_last =
      software_last b n v k f here a x
      ∙ (sym (ap (λ s. s.last) kept) ∙ (ap (λ c. if c then x.last else 0) latch ∙ sym (ap (λ c. if c then (if is_asserted b n.pins f.reset_by then 0 else started.last) else 0) latch)))

  pub none_left : access_state b n v a k x ≡ next_state b n v k f started
  none_left = same_state _ _ no_value no_last (done_left b sound n v k f here calm x kept a)

pub quiet_left : (b : Block) → IsSound b → (n : Now) (v : ItemValues) (k : ℕ) (f : Field) → slice_get b.fields k ≡ Some f → is_quiet f ≡ true → is_asserted b n.pins f.reset_by ≡ false → (x : FieldState) → kept_state f x ≡ x → (a : Access)
    → access_state b n v a k x ≡ next_state b n v k f (access_state b n v a k (started_state n v k f x))
quiet_left b sound n v k f here q calm x kept a = by (is_spared f) refl
  where
    by : (c : Bool) → is_spared f ≡ c → access_state b n v a k x ≡ next_state b n v k f (access_state b n v a k (started_state n v k f x))
    by true e = keeps_left b sound n v k f here (spared f e) calm x kept a
    by false e =
        let rest : keeps_none f ≡ true = sym (ap (λ c. c || keeps_none f) e) ∙ q in
        let both = both_true (not (is_storage f.class)) (not (keeps_last f.latch)) rest in
        none_left b sound n v k f here (not_true (is_storage f.class) both.0) (not_true (keeps_last f.latch) both.1) calm x kept a

-- what is kept of a field is kept of it again
if_twice : (c : Bool) (x : ℕ) → (if c then (if c then x else 0) else 0) ≡ (if c then x else 0)
if_twice true x = refl
if_twice false x = refl

kept_twice : (f : Field) (x : FieldState) → kept_state f (kept_state f x) ≡ kept_state f x
kept_twice f x = same_state _ _ (if_twice (is_storage f.class) x.value) (if_twice (keeps_last f.latch) x.last) (if_twice f.once x.done)

pub next_kept : (b : Block) (n : Now) (v : ItemValues) (left : ℕ → Field → FieldState) (states : List FieldState) → ((k : ℕ) (f : Field) → slice_get b.fields k ≡ Some f → state_at states k ≡ next_state b n v k f (left k f)) → HoldsKept b.fields states
next_kept b n v left states h k f here =
    let e = h k f here in
    ap (kept_state f) e ∙ (kept_twice f (reset_state f (is_asserted b n.pins f.reset_by) (ended_state n v k f (left k f))) ∙ sym e)

-- nor is anything kept of nothing

pub none_kept : (f : Field) → kept_state f no_state ≡ no_state
none_kept f = same_state _ _ (if_same (is_storage f.class) 0) (if_same (keeps_last f.latch) 0) (if_same f.once 0)
