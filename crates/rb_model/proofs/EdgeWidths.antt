-- A clock edge of a sound block, from kept values and for pins within their widths, keeps and shows such values.
use Rattle.std.proofs.Common.{◌≡◌, ℕ, zero, suc, ◌+◌, ◌^◌, ◌<◌, ◌≤◌, ◌==◌, Bool, true, false, not, ◌&&◌, if◌then◌else◌, Option, Some, None, unwrap_or, List, [], ◌∷◌, ◌++◌, codes, length, slice_get, get_or, map, refl, ap, sym, ◌∙◌, subst, arith}
use Rattle.std.specs.Prelude.{Contains, All}
use Rattle.std.specs.List.{enumerate_from, flat_map}
use Rattle.std.specs.Option.{option_map_or}
use Rattle.std.proofs.Math.Pow.{pow_pos}
use Rattle.std.proofs.lemmas.List.Elements.{All-contains, Contains-append_left, Contains-append_right}
use Rattle.rb_base.specs.declared.ports.Pin.{Pin}
use Rattle.v_design.specs.Expr.{Values, bit_of}
use Rattle.v_design.specs.Design.{outputs_among}
use Rattle.v_design.specs.Fits.{FitsPins}
use Rattle.rb_model.specs.declared.kinds.RefItem.TheVariants as item
use Rattle.rb_model.specs.declared.kinds.Shown.{Shown}
use Rattle.rb_model.specs.declared.kinds.Shown.TheVariants as shown
use Rattle.rb_model.specs.declared.block.Block.{Block}
use Rattle.rb_model.specs.declared.block.Field.{Field}
use Rattle.rb_model.specs.declared.block.Reg.{Reg}
use Rattle.rb_model.specs.Kept.{Kept, Val, Last, Done, Waited, Data, Error, Map, when, of_field, is_storage, keeps_last, is_kept, only_kept, kept, kept_of, has_wait, register_width, Fits}
use Rattle.rb_model.specs.Ports.{Outlet, ports, input_pins, outlets, outlet, field_outlets, reg_outlets, shown_item, shown_word}
use Rattle.rb_model.specs.Protocol.{Bus, bus_of}
use Rattle.rb_model.specs.Items.{Access, Now, ItemValues, AreItemValues, items, source_value}
use Rattle.rb_model.specs.Machine.{changed, hardware, software, uses_up, moved, next, reset_where, held, is_asserted, read_data, outputs}
use Rattle.rb_model.specs.Run.{bus_held, now, pins_of, carries, closes, is_unmapped, ready, answer, error, data_shown, error_shown, all_outputs, kept_next, ClockEdge}
use Rattle.rb_model.specs.References.{Each, WithSome, item_width}
use Rattle.rb_model.specs.SoundField.{FieldIsSoundIn}
use Rattle.rb_model.specs.Sound.{IsSound}
use Rattle.rb_model.proofs.Eachs.{Each-append, Each-weaker, Each-both, Each-always, Each-from_zero, Each-flat_map, Each-map, Each-numbered_all}
use Rattle.rb_model.proofs.Among.{outlets_among}
use Rattle.rb_model.proofs.InputPins.{bus_shown, outlet_pin, output_pins_are}
use Rattle.rb_model.proofs.ValueWidths.{PinFits, pins_fit, kept_among, when_has, field_width, val_fits, last_fits, values_fit}
use Rattle.rb_model.proofs.NextWidths.{source_fits, hardware_fits, software_fits, read_data_fits}

pub All-from_each : {X : Type 0} (P : X → Type 0) (xs : List X) → Each P xs → All P xs
All-from_each P [] h k d below = absurd (omega arith)
All-from_each P (x ∷ xs) h zero d below = h.0
All-from_each P (x ∷ xs) h (suc k) d below = All-from_each P xs h.1 k d (omega arith)

-- kept values are within their widths where these are
pub record Fitting (b : Block) (m : Map) : Type 0 where
  pub val : (k : ℕ) (f : Field) → slice_get b.fields k ≡ Some f → is_storage f.class ≡ true → m (Val k) < 2 ^ f.width
  pub last : (k : ℕ) (f : Field) → slice_get b.fields k ≡ Some f → keeps_last f.latch ≡ true → m (Last k) < 2 ^ f.width
  pub done : (k : ℕ) (f : Field) → slice_get b.fields k ≡ Some f → f.once ≡ true → m (Done k) < 2 ^ 1
  pub waited : has_wait b ≡ true → m Waited < 2 ^ 1
  pub answered : has_wait b ≡ true → m Data < 2 ^ 32
  pub failed : has_wait b ≡ true → m Error < 2 ^ 1

when_each : {X : Type 0} (P : X → Type 0) (c : Bool) (x : X) → (c ≡ true → P x) → Each P (when c x)
when_each P true x h = (h refl, tt)
when_each P false x h = tt

pub Fits-from : (b : Block) (m : Map) → Fitting b m → Fits b m
Fits-from b m h =
    let P : Kept → Type 0 = λ q. m q < 2 ^ register_width b q in
    All-from_each P (kept b) (Each-append P (flat_map kept_of (enumerate_from 0 b.fields)) (if has_wait b then Waited ∷ Data ∷ Error ∷ [] else [])
    (Each-flat_map P kept_of (enumerate_from 0 b.fields) (Each-numbered_all (λ e. Each P (kept_of e)) b.fields of_one)) (of_bus (has_wait b) refl))
  where
    of_one : (k : ℕ) (f : Field) → slice_get b.fields k ≡ Some f → Each (λ q. m q < 2 ^ register_width b q) (kept_of (k, f))
    of_one k f e =
        let P : Kept → Type 0 = λ q. m q < 2 ^ register_width b q in
        let w : f.width ≡ of_field b k 0 (λ g. g.width) = sym (field_width b k f e) in
        Each-append P (when (is_storage f.class) (Val k) ++ when (keeps_last f.latch) (Last k)) (when f.once (Done k))
        (Each-append P (when (is_storage f.class) (Val k)) (when (keeps_last f.latch) (Last k))
        (when_each P (is_storage f.class) (Val k) (λ t. subst (λ u. m (Val k) < 2 ^ u) w (h.val k f e t)))
        (when_each P (keeps_last f.latch) (Last k) (λ t. subst (λ u. m (Last k) < 2 ^ u) w (h.last k f e t))))
        (when_each P f.once (Done k) (λ t. h.done k f e t))

    of_bus : (c : Bool) → has_wait b ≡ c → Each (λ q. m q < 2 ^ register_width b q) (if c then Waited ∷ Data ∷ Error ∷ [] else [])
    of_bus true t = (h.waited t, (h.answered t, (h.failed t, tt)))
    of_bus false t = tt

bus_among : (b : Block) → has_wait b ≡ true → (q : Kept) → Contains (Waited ∷ Data ∷ Error ∷ []) q → Contains (kept b) q
bus_among b t q c = Contains-append_right (flat_map kept_of (enumerate_from 0 b.fields)) (if has_wait b then Waited ∷ Data ∷ Error ∷ [] else []) q
    (subst (λ d. Contains (if d then Waited ∷ Data ∷ Error ∷ [] else []) q) (sym t) c)

pub Fitting-from : (b : Block) (m : Map) → Fits b m → Fitting b m
Fitting-from b m h = record {
  val = val_fits b m h;
  last = last_fits b m h;
  done = λ k f e t. All-contains (λ q. m q < 2 ^ register_width b q) (kept b) (Done k) h (kept_among b k f e (Done k)
      (Contains-append_right (when (is_storage f.class) (Val k) ++ when (keeps_last f.latch) (Last k)) (when f.once (Done k)) (Done k) (when_has f.once (Done k) t)));
  waited = λ t. All-contains (λ q. m q < 2 ^ register_width b q) (kept b) Waited h (bus_among b t Waited (0, omega arith, refl));
  answered = λ t. All-contains (λ q. m q < 2 ^ register_width b q) (kept b) Data h (bus_among b t Data (1, omega arith, refl));
  failed = λ t. All-contains (λ q. m q < 2 ^ register_width b q) (kept b) Error h (bus_among b t Error (2, omega arith, refl));
}

if_below : (w : ℕ) (c : Bool) (x y : ℕ) → x < 2 ^ w → y < 2 ^ w → (if c then x else y) < 2 ^ w
if_below w true x y h g = h
if_below w false x y h g = g

bit_below : (c : Bool) → bit_of c < 2 ^ 1
bit_below true = omega arith
bit_below false = omega arith

at_field : (b : Block) (k : ℕ) (f : Field) → slice_get b.fields k ≡ Some f → (x : ℕ) (g : Field → ℕ) → g f ≡ of_field b k x g
at_field b k f e x g = sym (ap (λ o. option_map_or g o x) e)

-- Resets

reset_fits : (b : Block) → IsSound b → (test : Field → Bool) (m : Map) → Fitting b m → Fitting b (reset_where b test m)
reset_fits b sound test m h = record {
  val = λ k f e t. subst (λ x. x < 2 ^ f.width) (at_field b k f e (m (Val k)) (λ g. if test g then unwrap_or g.reset (m (Val k)) else m (Val k)))
      (if_below f.width (test f) (unwrap_or f.reset (m (Val k))) (m (Val k))
      (or_kept f.width (m (Val k)) (h.val k f e t) f.reset (let s : FieldIsSoundIn b (k, f) = Each-from_zero (FieldIsSoundIn b) b.fields k f sound.fields e in s.alone.reset)) (h.val k f e t));
  last = λ k f e t. subst (λ x. x < 2 ^ f.width) (at_field b k f e (m (Last k)) (λ g. if test g then 0 else m (Last k))) (if_below f.width (test f) 0 (m (Last k)) (pow_pos f.width) (h.last k f e t));
  done = λ k f e t. subst (λ x. x < 2 ^ 1) (at_field b k f e (m (Done k)) (λ g. if test g then 0 else m (Done k))) (if_below 1 (test f) 0 (m (Done k)) (omega arith) (h.done k f e t));
  waited = h.waited;
  answered = h.answered;
  failed = h.failed;
}
  where
    or_kept : (w x : ℕ) → x < 2 ^ w → (o : Option ℕ) → WithSome o (λ r. r < 2 ^ w) → unwrap_or o x < 2 ^ w
    or_kept w x l None g = l
    or_kept w x l (Some r) g = g

bus_held_fits : (b : Block) (p : Bus) (m : Map) → Fitting b m → Fitting b (bus_held b p m)
bus_held_fits b p m h = record {
  val = h.val;
  last = h.last;
  done = h.done;
  waited = λ t. if_below 1 (p.resetn == 0) 0 (m Waited) (omega arith) (h.waited t);
  answered = λ t. if_below 32 (p.resetn == 0) 0 (m Data) (omega arith) (h.answered t);
  failed = λ t. if_below 1 (p.resetn == 0) 0 (m Error) (omega arith) (h.failed t);
}

-- what the edge finds
pub now_fits : (b : Block) → IsSound b → (p : Values) (m : Map) → Fits b m → Fits b (now b p m).kept
now_fits b sound p m h = Fits-from b (bus_held b (bus_of p) (held b p m)) (bus_held_fits b (bus_of p) (held b p m) (reset_fits b sound (λ f. is_asserted b p f.reset_by && not f.reset_by.sync) m (Fitting-from b m h)))

module _ (b : Block) (sound : IsSound b) (n : Now) (fits : Fits b n.kept) (pins : Each (PinFits n.pins) (input_pins b)) (v : ItemValues) (right : AreItemValues b n v) where
  changed_fits : (k : ℕ) (f : Field) → slice_get b.fields k ≡ Some f → (x : ℕ) → x < 2 ^ f.width → changed b n v k f x < 2 ^ f.width
  changed_fits k f e x h = if_below f.width f.hw_first (hardware n v k f (software b n v n.access k f x)) (software b n v n.access k f (hardware n v k f x))
      (hardware_fits b sound n fits pins v right k f e (software b n v n.access k f x) (software_fits b sound n fits pins v right n.access k f e x h))
      (software_fits b sound n fits pins v right n.access k f e (hardware n v k f x) (hardware_fits b sound n fits pins v right k f e x h))

  moved_fits : Fitting b (moved b n v)
  moved_fits =
      let h : Fitting b n.kept = Fitting-from b n.kept fits in
      record {
        val = λ k f e t. subst (λ x. x < 2 ^ f.width) (at_field b k f e 0 (λ g. changed b n v k g (n.kept (Val k)))) (changed_fits k f e (n.kept (Val k)) (h.val k f e t));
        last = λ k f e t. subst (λ x. x < 2 ^ f.width) (at_field b k f e 0 (λ g. source_value n v g)) (source_fits b sound n fits pins v right k f e);
        done = λ k f e t. if_below 1 (uses_up b n v n.access k) 1 (n.kept (Done k)) (omega arith) (h.done k f e t);
        waited = h.waited;
        answered = h.answered;
        failed = h.failed;
      }

  pub kept_next_fits : Fits b (kept_next b n v)
  kept_next_fits =
      let h : Fitting b (next b n v) = reset_fits b sound (λ f. is_asserted b n.pins f.reset_by) (moved b n v) moved_fits in
      Fits-from b (kept_next b n v) (record {
        val = h.val;
        last = h.last;
        done = h.done;
        waited = λ t. bit_below (carries b (bus_of n.pins) n.kept);
        answered = λ t. read_data_fits b sound n fits pins v right n.access;
        failed = λ t. bit_below (carries b (bus_of n.pins) n.kept && is_unmapped b (bus_of n.pins));
      })

  -- Outputs

  data_shown_fits : data_shown b n v < 2 ^ 32
  data_shown_fits = by (has_wait b) refl
    where
      by : (c : Bool) → has_wait b ≡ c → (if c then (if closes b (bus_of n.pins) n.kept then n.kept Data else 0) else answer b n v) < 2 ^ 32
      by true t = if_below 32 (closes b (bus_of n.pins) n.kept) (n.kept Data) 0 ((Fitting-from b n.kept fits).answered t) (omega arith)
      by false t = read_data_fits b sound n fits pins v right n.access

  error_shown_fits : error_shown b n < 2 ^ 1
  error_shown_fits = by (has_wait b) refl
    where
      by : (c : Bool) → has_wait b ≡ c → (if c then (if closes b (bus_of n.pins) n.kept then n.kept Error else 0) else error b n) < 2 ^ 1
      by true t = if_below 1 (closes b (bus_of n.pins) n.kept) (n.kept Error) 0 ((Fitting-from b n.kept fits).failed t) (omega arith)
      by false t = bit_below (carries b (bus_of n.pins) n.kept && is_unmapped b (bus_of n.pins))

  shown_width : (k : ℕ) (s : Shown) → item_width b (shown_item k s) ≡ 1
  shown_width k shown.Anded = refl
  shown_width k shown.Ored = refl
  shown_width k shown.Xored = refl
  shown_width k shown.IncrThreshold = refl
  shown_width k shown.DecrThreshold = refl
  shown_width k shown.Overflow = refl
  shown_width k shown.Underflow = refl
  shown_width k shown.SwMod = refl
  shown_width k shown.SwAcc = refl

  outlets_wide : Each (λ o. item_width b o.item ≡ o.width) (outlets b)
  outlets_wide = Each-append (λ o. item_width b o.item ≡ o.width) (flat_map field_outlets (enumerate_from 0 b.fields)) (flat_map reg_outlets (enumerate_from 0 b.regs))
      (Each-flat_map (λ o. item_width b o.item ≡ o.width) field_outlets (enumerate_from 0 b.fields) (Each-numbered_all (λ e. Each (λ o. item_width b o.item ≡ o.width) (field_outlets e)) b.fields
      (λ k f e. Each-append (λ o. item_width b o.item ≡ o.width) (when f.hw_reads (outlet (codes "out$" ++ f.path) f.width (item.Field k))) (map (λ s. outlet (shown_word s ++ f.path) 1 (shown_item k s)) f.shown)
      (when_each (λ o. item_width b o.item ≡ o.width) f.hw_reads (outlet (codes "out$" ++ f.path) f.width (item.Field k)) (λ t. field_width b k f e))
      (Each-map (λ o. item_width b o.item ≡ o.width) (λ s. outlet (shown_word s ++ f.path) 1 (shown_item k s)) f.shown (Each-always (λ s. item_width b (shown_item k s) ≡ 1) (shown_width k) f.shown)))))
      (Each-flat_map (λ o. item_width b o.item ≡ o.width) reg_outlets (enumerate_from 0 b.regs) (Each-numbered_all (λ e. Each (λ o. item_width b o.item ≡ o.width) (reg_outlets e)) b.regs
      (λ k r e. Each-append (λ o. item_width b o.item ≡ o.width) (when r.intr (outlet (codes "intr$" ++ r.path) 1 (item.Intr k))) (when r.halt (outlet (codes "halt$" ++ r.path) 1 (item.Halt k)))
      (when_each (λ o. item_width b o.item ≡ o.width) r.intr (outlet (codes "intr$" ++ r.path) 1 (item.Intr k)) (λ t. refl)) (when_each (λ o. item_width b o.item ≡ o.width) r.halt (outlet (codes "halt$" ++ r.path) 1 (item.Halt k)) (λ t. refl)))))

  shown_fit : (os : List Outlet) → Each (λ o. v o.item < 2 ^ o.width) os → FitsPins (map outlet_pin os) (map (λ o. v o.item) os)
  shown_fit [] h = tt
  shown_fit (o ∷ os) h = (h.0, shown_fit os h.1)

  pub all_outputs_fit : FitsPins (outputs_among (ports b)) (all_outputs b n v)
  all_outputs_fit = subst (λ ps. FitsPins ps (all_outputs b n v)) (sym (output_pins_are b)) (
    if_below 1 (has_wait b) (bit_of (closes b (bus_of n.pins) n.kept)) 1 (bit_below (closes b (bus_of n.pins) n.kept)) (omega arith),
    (
      data_shown_fits,
      (
        error_shown_fits,
        shown_fit (outlets b) (Each-both (λ o. Contains (items b) o.item) (λ o. item_width b o.item ≡ o.width) (λ o. v o.item < 2 ^ o.width)
            (λ o c w. subst (λ u. v o.item < 2 ^ u) w (values_fit b sound n fits pins v right o.item c)) (outlets b) (outlets_among b sound) outlets_wide),
      ),
    ),
  )

-- Whole edges

only_kept_fits : (b : Block) (m : Map) → Fits b m → Fits b (only_kept b m)
only_kept_fits b m h = let g : Fitting b m = Fitting-from b m h in Fits-from b (only_kept b m) (record {
  val = λ k f e t. if_below f.width (is_kept b (Val k)) (m (Val k)) 0 (g.val k f e t) (pow_pos f.width);
  last = λ k f e t. if_below f.width (is_kept b (Last k)) (m (Last k)) 0 (g.last k f e t) (pow_pos f.width);
  done = λ k f e t. if_below 1 (is_kept b (Done k)) (m (Done k)) 0 (g.done k f e t) (omega arith);
  waited = λ t. if_below 1 (has_wait b) (m Waited) 0 (g.waited t) (omega arith);
  answered = λ t. if_below 32 (has_wait b) (m Data) 0 (g.answered t) (omega arith);
  failed = λ t. if_below 1 (has_wait b) (m Error) 0 (g.failed t) (omega arith);
})

module _ (b : Block) (sound : IsSound b) (m : Map) (fits : Fits b m) (x : List ℕ) (pins : FitsPins (input_pins b) x) (outs : List ℕ) (after : Map) (edge : ClockEdge b m x outs after) where
  pub after_fits : Fits b after
  after_fits = subst (λ l. Fits b l) (sym edge.moved) (only_kept_fits b (kept_next b (now b (pins_of b x) m) edge.items)
      (kept_next_fits b sound (now b (pins_of b x) m) (now_fits b sound (pins_of b x) m fits) (pins_fit b sound x pins) edge.items edge.valued))

  pub outs_fit : FitsPins (outputs_among (ports b)) outs
  outs_fit = subst (λ os. FitsPins (outputs_among (ports b)) os) (sym edge.seen) (all_outputs_fit b sound (now b (pins_of b x) m) (now_fits b sound (pins_of b x) m fits) (pins_fit b sound x pins) edge.items edge.valued)
