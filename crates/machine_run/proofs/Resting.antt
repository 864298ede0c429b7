-- What an edge makes of a field that its access doesn't reach.
use Rattle.std.specs.Prelude.{Contains}
use Rattle.std.proofs.Common.{◌≡◌, ℕ, ◌^◌, ◌<◌, subst, true, false, not, ◌&&◌, if◌then◌else◌, Some, is_some, unwrap_or, List, ◌++◌, codes, slice_get, ap, ◌∙◌}
use Rattle.std.specs.Option.{option_map, option_map_or}
use Rattle.std.proofs.Math.Pow.{pow_pos}
use Rattle.plain_lemmas.proofs.Bools.{if-same as same_both}
use Rattle.rb_model.specs.declared.kinds.RefItem.{RefItem}
use Rattle.rb_model.specs.declared.kinds.Mask.{Mask}
use Rattle.rb_model.specs.declared.kinds.Mask.TheVariants as mask
use Rattle.rb_model.specs.declared.block.Block.{Block}
use Rattle.rb_model.specs.declared.block.Field.{Field}
use Rattle.rb_model.specs.Effects.{counted, finished, is_gated, is_latching, is_open, latched, loaded, loads, masked, set_or_cleared}
use Rattle.rb_model.specs.Items.{Now, ItemValues, down, fed, gated, level_value, mask_value, source_value, up}
use Rattle.rb_model.specs.Kept.{Val, Last, Done, Map, Fits, is_storage}
use Rattle.rb_model.specs.Machine.{changed, counts, hardware, is_asserted, moved, software}
use Rattle.rb_model.specs.Run.{ClockEdge, kept_next, now, pins_of}
use Rattle.v_design.specs.Fits.{FitsPins}
use Rattle.rb_model.specs.Ports.{input_pins}
use Rattle.rb_model.specs.Items.{items}
use Rattle.rb_model.specs.References.{AreWide, item_width, mask_refs}
use Rattle.rb_model.specs.SoundField.{FieldIsSoundIn}
use Rattle.rb_model.specs.Sound.{IsSound}
use Rattle.rb_model.proofs.Eachs.{Each-left, Each-from_zero}
use Rattle.rb_model.proofs.ValueWidths.{pins_fit, values_fit, val_fits}
use Rattle.rb_model.proofs.EdgeWidths.{now_fits}
use Rattle.machine_run.proofs.Masks.{mask_rests}
use Rattle.machine_run.specs.Quiet.{IsQuiet}
use Rattle.machine_run.specs.Words.{is_accessed}
use Rattle.machine_run.proofs.Others.{value_stays, mark_stays}
use Rattle.machine_run.proofs.Resets.{at_field, is_after, stored}

-- each step of hardware
module _ (f : Field) (quiet : IsQuiet f) where
  loads_nothing : loads f ≡ false
  loads_nothing = ap (λ o. if is_some o then is_gated f.gate else f.hw_writes && not (is_latching f.latch)) quiet.uncounted ∙ ap (λ c. c && not (is_latching f.latch)) quiet.unwritten

  unloaded : (x from g : ℕ) → loaded f x from g ≡ x
  unloaded x from g = ap (λ c. if c then 0 else (if loads f && is_open f.gate g then from else x)) quiet.unpulsed ∙ ap (λ c. if c && is_open f.gate g then from else x) loads_nothing

  uncounted : (n : Now) (v : ItemValues) (x : ℕ) → counts n v f x ≡ x
  uncounted n v x = ap (λ o. option_map_or (λ c. counted f.width x (up n v f) (down n v f) (option_map (level_value v) c.high) (option_map (level_value v) c.low)) o x) quiet.uncounted

  unlatched : (x input last : ℕ) → latched f.latch f.width x input last ≡ x
  unlatched x input last = ap (λ l. latched l f.width x input last) quiet.unlatched

  unfinished : (n : Now) (v : ItemValues) (old x bits : ℕ) → finished f old x (fed n v f.set (codes "hwset$" ++ f.path)) (fed n v f.clear (codes "hwclr$" ++ f.path)) bits ≡ masked f.keep f.width old x bits
  unfinished n v old x bits =
      let set = fed n v f.set (codes "hwset$" ++ f.path) in
      ap (λ q. masked f.keep f.width old (set_or_cleared f.width x set (fed n v q (codes "hwclr$" ++ f.path))) bits) quiet.uncleared
      ∙ ap (λ q. masked f.keep f.width old (set_or_cleared f.width x (fed n v q (codes "hwset$" ++ f.path)) 0) bits) quiet.unset

  -- only the mask is left
  hardware_masks : (n : Now) (v : ItemValues) (k x : ℕ) → hardware n v k f x ≡ masked f.keep f.width x x (mask_value v f.keep)
  hardware_masks n v k x =
      let from = source_value n v f in
      let gate = gated n v f.gate (codes "we$") (codes "wel$") f.path in
      let last = n.kept (Last k) in
      let end : ℕ → ℕ = λ y. finished f x y (fed n v f.set (codes "hwset$" ++ f.path)) (fed n v f.clear (codes "hwclr$" ++ f.path)) (mask_value v f.keep) in
      ap (λ y. end (latched f.latch f.width (counts n v f y) from last)) (unloaded x from gate)
      ∙ (ap (λ y. end (latched f.latch f.width y from last)) (uncounted n v x)
      ∙ (ap end (unlatched x from last)
      ∙ unfinished n v x x (mask_value v f.keep)))

-- hardware alone changes a field that the access doesn't reach
hardware_alone : (b : Block) (n : Now) (v : ItemValues) (k : ℕ) (f : Field) (x : ℕ) → is_accessed b n.access k ≡ false → changed b n v k f x ≡ hardware n v k f x
hardware_alone b n v k f x apart =
    ap (λ y. if f.hw_first then hardware n v k f y else software b n v n.access k f (hardware n v k f x)) (value_stays b n v n.access k f apart x)
    ∙ (ap (λ y. if f.hw_first then hardware n v k f x else y) (value_stays b n v n.access k f apart (hardware n v k f x))
    ∙ same_both f.hw_first (hardware n v k f x))

module _ (b : Block) (m : Map) (x outs : List ℕ) (after : Map) (edge : ClockEdge b m x outs after)
    (k : ℕ) (f : Field) (here : slice_get b.fields k ≡ Some f) (asserted : is_asserted b (pins_of b x) f.reset_by ≡ false) (apart : is_accessed b (now b (pins_of b x) m).access k ≡ false) where
  abbrev n : Now
  n = now b (pins_of b x) m

  -- an asynchronous reset that isn't asserted holds nothing
  value_held : n.kept (Val k) ≡ m (Val k)
  value_held =
      let y = m (Val k) in
      at_field b k f here y (λ g. if is_asserted b (pins_of b x) g.reset_by && not g.reset_by.sync then unwrap_or g.reset y else y)
      ∙ ap (λ c. if c && not f.reset_by.sync then unwrap_or f.reset y else y) asserted

  mark_held : n.kept (Done k) ≡ m (Done k)
  mark_held =
      let y = m (Done k) in
      at_field b k f here y (λ g. if is_asserted b (pins_of b x) g.reset_by && not g.reset_by.sync then 0 else y)
      ∙ ap (λ c. if c && not f.reset_by.sync then 0 else y) asserted

  value_next : kept_next b n edge.items (Val k) ≡ changed b n edge.items k f (n.kept (Val k))
  value_next =
      let y = moved b n edge.items (Val k) in
      at_field b k f here y (λ g. if is_asserted b n.pins g.reset_by then unwrap_or g.reset y else y)
      ∙ (ap (λ c. if c then unwrap_or f.reset y else y) asserted
      ∙ at_field b k f here 0 (λ g. changed b n edge.items k g (n.kept (Val k))))

  mark_next : kept_next b n edge.items (Done k) ≡ n.kept (Done k)
  mark_next =
      let y = moved b n edge.items (Done k) in
      at_field b k f here y (λ g. if is_asserted b n.pins g.reset_by then 0 else y)
      ∙ (ap (λ c. if c then 0 else y) asserted
      ∙ ap (λ c. if c then 1 else n.kept (Done k)) (mark_stays b n edge.items n.access k apart))

  pub hardware_moves : is_storage f.class ≡ true → after (Val k) ≡ hardware n edge.items k f (m (Val k))
  hardware_moves e =
      stored b m x outs after edge k f here e
      ∙ (value_next
      ∙ (hardware_alone b n edge.items k f (n.kept (Val k)) apart
      ∙ ap (hardware n edge.items k f) value_held))

  pub value_rests : is_storage f.class ≡ true → IsQuiet f → f.keep ≡ mask.Off → after (Val k) ≡ m (Val k)
  value_rests e quiet unmasked =
      hardware_moves e
      ∙ (hardware_masks f quiet n edge.items k (m (Val k))
      ∙ ap (λ q. masked q f.width (m (Val k)) (m (Val k)) (mask_value edge.items f.keep)) unmasked)

  pub mark_rests : f.once ≡ true → after (Done k) ≡ m (Done k)
  mark_rests once =
      is_after b m x outs after edge (Done k)
      ∙ (ap (λ c. if c then kept_next b n edge.items (Done k) else 0) (at_field b k f here false (λ g. g.once) ∙ once)
      ∙ (mark_next
      ∙ mark_held))

-- in a sound block the bits of a mask are as wide as its field
module _ (b : Block) (sound : IsSound b) (m : Map) (fits : Fits b m) (x : List ℕ) (pins : FitsPins (input_pins b) x) (outs : List ℕ) (after : Map) (edge : ClockEdge b m x outs after)
    (k : ℕ) (f : Field) (here : slice_get b.fields k ≡ Some f) (asserted : is_asserted b (pins_of b x) f.reset_by ≡ false) (apart : is_accessed b (now b (pins_of b x) m).access k ≡ false) where
  abbrev IsWide : ℕ → RefItem → Type 0
  IsWide w i = Contains (items b) i × (item_width b i ≡ w)

  item_fits : (i : RefItem) → IsWide f.width i → edge.items i < 2 ^ f.width
  item_fits i a = subst (λ w. edge.items i < 2 ^ w) a.1 (values_fit b sound (now b (pins_of b x) m) (now_fits b sound (pins_of b x) m fits) (pins_fit b sound x pins) edge.items edge.valued i a.0)

  mask_fits : (q : Mask) → AreWide b f.width (mask_refs q) → mask_value edge.items q < 2 ^ f.width
  mask_fits mask.Off a = pow_pos f.width
  mask_fits (mask.Enable i) a = item_fits i a.0
  mask_fits (mask.Mask i) a = item_fits i a.0

  pub masked_rests : is_storage f.class ≡ true → IsQuiet f → after (Val k) ≡ m (Val k)
  masked_rests e quiet =
      let s : FieldIsSoundIn b (k, f) = Each-from_zero (FieldIsSoundIn b) b.fields k f sound.fields here in
      let both : AreWide b f.width (mask_refs f.keep ++ mask_refs f.enable) = Each-left (IsWide f.width) (mask_refs f.keep ++ mask_refs f.enable) (mask_refs f.halt) s.refers.masks in
      let wide : AreWide b f.width (mask_refs f.keep) = Each-left (IsWide f.width) (mask_refs f.keep) (mask_refs f.enable) both in
      hardware_moves b m x outs after edge k f here asserted apart e
      ∙ (hardware_masks f quiet (now b (pins_of b x) m) edge.items k (m (Val k))
      ∙ mask_rests f.width (m (Val k)) (mask_value edge.items f.keep) (val_fits b m fits k f here e) f.keep (mask_fits f.keep wide))
