-- What a field keeps of which hardware makes something by one pin alone.
use Rattle.std.proofs.Common.{◌≡◌, ℕ, ◌+◌, ◌-◌, ◌%◌, ◌^◌, ◌≤◌, ◌==◌, Bool, true, false, not, ◌&&◌, ◌||◌, if◌then◌else◌, Option, Some, None, is_some, unwrap_or, List, codes, ◌++◌, length, slice_get, slice_index, refl, sym, ap, ◌∙◌, arith, bit_and}
use Rattle.std.specs.Option.{option_map, option_map_or}
use Rattle.std.proofs.lemmas.Nat.{and_mask}
use Rattle.std.proofs.Math.Nat.{add-mod_right}
use Rattle.std.proofs.Math.Pow.{mod-mod-pow}
use Rattle.plain_lemmas.proofs.Bools.{or-true as or_true}
use Rattle.rb_base.specs.Bits.{ones}
use Rattle.rb_model.specs.declared.kinds.Amount.{Amount}
use Rattle.rb_model.specs.declared.kinds.Amount.TheVariants as amount
use Rattle.rb_model.specs.declared.kinds.Feed.{Feed}
use Rattle.rb_model.specs.declared.kinds.Feed.TheVariants as feed
use Rattle.rb_model.specs.declared.kinds.Gate.{Gate}
use Rattle.rb_model.specs.declared.kinds.Gate.TheVariants as gate
use Rattle.rb_model.specs.declared.kinds.Latch.TheVariants as latch
use Rattle.rb_model.specs.declared.kinds.Mask.TheVariants as mask
use Rattle.rb_model.specs.declared.kinds.Part.{Part}
use Rattle.rb_model.specs.declared.kinds.Count.{Count}
use Rattle.rb_model.specs.declared.block.Block.{Block}
use Rattle.rb_model.specs.declared.block.Field.{Field}
use Rattle.rb_model.specs.Effects.{counted, finished, is_gated, is_latching, is_open, latched, loaded, loads, masked, set_or_cleared}
use Rattle.rb_model.specs.Items.{Access, Now, ItemValues, amount_value, down, fed, gated, level_value, mask_value, source_value, step, up}
use Rattle.rb_model.specs.Kept.{Last, is_storage, keeps_last}
use Rattle.rb_model.specs.Machine.{counts, hardware, is_asserted, software}
use Rattle.rb_model.specs.Ports.{input_pins, is_pin}
use Rattle.rb_model.specs.Run.{pins_of}
use Rattle.rb_model.specs.Sound.{IsSound}
use Rattle.rb_model.specs.SoundField.{FieldIsSoundIn}
use Rattle.rb_model.proofs.Eachs.{Each-from_zero}
use Rattle.rb_model.proofs.OwnViews.{both_true, not_true}
use Rattle.block_plan.specs.declared.plan.FieldPlaces.{FieldPlaces}
use Rattle.block_plan.specs.Plan.{AreFieldPlaces, IsPlaceOf}
use Rattle.rb_machine.specs.declared.plain.PinStep.TheVariants as pin_step_kind
use Rattle.rb_machine.specs.declared.sight.FieldState.{FieldState}
use Rattle.rb_machine.specs.Moves.{begun_state, kept_state, next_state, started_state}
use Rattle.rb_machine.specs.Plain.{counts_by_pin, fixed_amount, is_number, is_plain, is_plain_count, moves_by_pin, number_of, pin_step, step_value}
use Rattle.rb_machine.specs.Quiet.{begins, is_light, is_quiet, rests}
use Rattle.rb_machine.specs.Slots.{access_state}
use Rattle.rb_machine.proofs.Accessing.{software_done, software_last, software_value}
use Rattle.rb_machine.proofs.Placing.{place_at}
use Rattle.rb_machine.proofs.Resting.{done_left, no_feed, no_latch, no_mask, none_of, quiet_left, same_state}

no_gate : (g : Gate) → not (is_gated g) ≡ true → g ≡ gate.Always
no_gate gate.Always h = refl
no_gate (gate.High from) h = cc
no_gate (gate.Low from) h = cc

pub a_pin : (from : Feed) → is_pin from ≡ true → from ≡ feed.Pin
a_pin feed.Off h = cc
a_pin feed.Pin h = refl
a_pin (feed.Item i) h = cc

-- what a plain field is
pub record IsPlain (f : Field) : Type 0 where
  pub class : is_storage f.class ≡ true
  pub first : f.hw_first ≡ false
  pub latch : f.latch ≡ latch.Off
  pub pulse : f.pulse ≡ false
  pub gate : f.gate ≡ gate.Always
  pub set : f.set ≡ feed.Off
  pub clear : f.clear ≡ feed.Off
  pub keep : f.keep ≡ mask.Off
  pub moves : moves_by_pin f ≡ true

pub plainly : (f : Field) → is_plain f ≡ true → IsPlain f
plainly f h =
    let a = both_true _ _ h in
    let b = both_true _ _ a.0 in
    let c = both_true _ _ b.0 in
    let d = both_true _ _ c.0 in
    let e = both_true _ _ d.0 in
    let g = both_true _ _ e.0 in
    let i = both_true _ _ g.0 in
    let j = both_true _ _ i.0 in
    record {
      class = j.0;
      first = not_true f.hw_first j.1;
      latch = no_latch f.latch i.1;
      pulse = not_true f.pulse g.1;
      gate = no_gate f.gate e.1;
      set = no_feed f.set d.1;
      clear = no_feed f.clear c.1;
      keep = no_mask f.keep b.1;
      moves = a.1;
    }

-- a sum in the lowest bits
wrapped : (w n : ℕ) → w ≤ 64 → bit_and (n % 2 ^ 64) (ones w) ≡ (n + 2 ^ w - 0) % 2 ^ w
wrapped w n l =
    let split : 64 ≡ 64 - w + w = omega (arith, l) in
    let less : n + 2 ^ w - 0 ≡ n + 2 ^ w = omega arith in
    and_mask (n % 2 ^ 64) w ∙ (ap (λ m. n % 2 ^ m % 2 ^ w) split ∙ (mod-mod-pow n (64 - w) w ∙ sym (ap (λ m. m % 2 ^ w) less ∙ add-mod_right n (2 ^ w))))

-- hardware makes of it what the step makes
module _ (b : Block) (sound : IsSound b) (x : List ℕ) (long : length x ≡ length (input_pins b)) (n : Now) (pins : n.pins ≡ pins_of b x) (v : ItemValues) (k : ℕ) (f : Field) (wide : f.width ≤ 64)
    (p : FieldPlaces) (at : AreFieldPlaces b f p) (q : IsPlain f) (y : ℕ) where
  pin : (name : List ℕ) (place : ℕ) → IsPlaceOf b name place → n.pins name ≡ slice_index x place
  pin name place h = ap (λ g. g name) pins ∙ place_at b sound name place h x long

  abbrev source : ℕ
  source = source_value n v f

  abbrev gate_now : ℕ
  gate_now = gated n v f.gate (codes "we$") (codes "wel$") f.path

  -- what is behind the count leaves it
  behind : (z last bits : ℕ) → finished f y (latched f.latch f.width z source last) (fed n v f.set (codes "hwset$" ++ f.path)) (fed n v f.clear (codes "hwclr$" ++ f.path)) bits ≡ z
  behind z last bits =
      ap (λ l. finished f y (latched l f.width z source last) (fed n v f.set (codes "hwset$" ++ f.path)) (fed n v f.clear (codes "hwclr$" ++ f.path)) bits) q.latch
      ∙ (ap (λ m. masked m f.width y (set_or_cleared f.width z (fed n v f.set (codes "hwset$" ++ f.path)) (fed n v f.clear (codes "hwclr$" ++ f.path))) bits) q.keep
      ∙ (ap (λ s. set_or_cleared f.width z (fed n v s (codes "hwset$" ++ f.path)) (fed n v f.clear (codes "hwclr$" ++ f.path))) q.set
      ∙ ap (λ c. set_or_cleared f.width z 0 (fed n v c (codes "hwclr$" ++ f.path))) q.clear))

  by_load : f.count ≡ None → (f.hw_writes && is_pin f.source) ≡ true → hardware n v k f y ≡ step_value x (pin_step f p) y
  by_load none h =
      let both = both_true f.hw_writes (is_pin f.source) h in
      let load : loads f ≡ true = ap (λ o. if is_some o then is_gated f.gate else f.hw_writes && not (is_latching f.latch)) none ∙ (ap (λ w. w && not (is_latching f.latch)) both.0 ∙ ap (λ l. not (is_latching l)) q.latch) in
      let opens : is_open f.gate gate_now ≡ true = ap (λ g. is_open g gate_now) q.gate in
      let loaded_is : loaded f y source gate_now ≡ source = ap (λ c. if c then 0 else (if loads f && is_open f.gate gate_now then source else y)) q.pulse ∙ (ap (λ l. if l && is_open f.gate gate_now then source else y) load ∙ ap (λ o. if o then source else y) opens) in
      let counts_is : counts n v f source ≡ source = ap (λ o. option_map_or (λ c. counted f.width source (up n v f) (down n v f) (option_map (level_value v) c.high) (option_map (level_value v) c.low)) o source) none in
      let seen : source ≡ slice_index x p.source = ap (λ s. fed n v s (codes "in$" ++ f.path)) (a_pin f.source both.1) ∙ pin (codes "in$" ++ f.path) p.source at.source in
      let stepped : step_value x (pin_step f p) y ≡ slice_index x p.source = ap (λ o. step_value x (option_map_or (λ c. pin_step_kind.Count (record { pin = p.up.pulse; amount = fixed_amount c.up; ones = ones f.width })) o (pin_step_kind.Load p.source)) y) none in
      behind (counts n v f (loaded f y source gate_now)) (n.kept (Last k)) (mask_value v f.keep) ∙ (ap (counts n v f) loaded_is ∙ (counts_is ∙ (seen ∙ sym stepped)))

  -- how far a part counts
  abbrev pulse : List ℕ
  pulse = codes "incr$" ++ f.path

  abbrev value : List ℕ
  value = codes "incrvalue$" ++ f.path

  numbered : (a : Amount) → is_number a ≡ true → amount_value n v a value ≡ number_of a
  numbered (amount.Number m) h = refl
  numbered (amount.Item i) h = cc
  numbered (amount.Pin w) h = cc

  part_is : (o : Option Part) → counts_by_pin o ≡ true → step n v o pulse value ≡ (if slice_index x p.up.pulse == 0 then 0 else fixed_amount o)
  part_is None h = cc
  part_is (Some r) h =
      let both = both_true (is_pin r.pulse) (is_number r.amount) h in
      let seen : fed n v r.pulse pulse ≡ slice_index x p.up.pulse = ap (λ s. fed n v s pulse) (a_pin r.pulse both.0) ∙ pin pulse p.up.pulse at.up.pulse in
      ap (λ z. if z == 0 then 0 else amount_value n v r.amount value) seen ∙ ap (λ z. if slice_index x p.up.pulse == 0 then 0 else z) (numbered r.amount both.1)

  by_count : (c : Count) → f.count ≡ Some c → is_plain_count c ≡ true → hardware n v k f y ≡ step_value x (pin_step f p) y
  by_count c some h =
      let a = both_true _ _ h in
      let d = both_true _ _ a.0 in
      let e = both_true _ _ d.0 in
      let load : loads f ≡ false = ap (λ o. if is_some o then is_gated f.gate else f.hw_writes && not (is_latching f.latch)) some ∙ ap is_gated q.gate in
      let loaded_is : loaded f y source gate_now ≡ y = ap (λ c. if c then 0 else (if loads f && is_open f.gate gate_now then source else y)) q.pulse ∙ ap (λ l. if l && is_open f.gate gate_now then source else y) load in
      let far : ℕ = if slice_index x p.up.pulse == 0 then 0 else fixed_amount c.up in
      let up_is : up n v f ≡ far = ap (λ o. option_map_or (λ c. step n v c.up pulse value) o 0) some ∙ part_is c.up e.0 in
      let down_is : down n v f ≡ 0 = ap (λ o. option_map_or (λ c. step n v c.down (codes "decr$" ++ f.path) (codes "decrvalue$" ++ f.path)) o 0) some ∙ ap (λ o. step n v o (codes "decr$" ++ f.path) (codes "decrvalue$" ++ f.path)) (none_of c.down e.1) in
      let counts_is : counts n v f y ≡ counted f.width y far 0 None None =
      ap (λ o. option_map_or (λ c. counted f.width y (up n v f) (down n v f) (option_map (level_value v) c.high) (option_map (level_value v) c.low)) o y) some
      ∙ (ap (λ u. counted f.width y u (down n v f) (option_map (level_value v) c.high) (option_map (level_value v) c.low)) up_is
      ∙ (ap (λ u. counted f.width y far u (option_map (level_value v) c.high) (option_map (level_value v) c.low)) down_is
      ∙ (ap (λ o. counted f.width y far 0 (option_map (level_value v) o) (option_map (level_value v) c.low)) (none_of c.high d.1)
      ∙ ap (λ o. counted f.width y far 0 None (option_map (level_value v) o)) (none_of c.low a.1)))) in
      let stepped : step_value x (pin_step f p) y ≡ bit_and ((y + far) % 2 ^ 64) (ones f.width) = ap (λ o. step_value x (option_map_or (λ c. pin_step_kind.Count (record { pin = p.up.pulse; amount = fixed_amount c.up; ones = ones f.width })) o (pin_step_kind.Load p.source)) y) some in
      behind (counts n v f (loaded f y source gate_now)) (n.kept (Last k)) (mask_value v f.keep) ∙ (ap (counts n v f) loaded_is ∙ (counts_is ∙ sym (stepped ∙ wrapped f.width (y + far) wide)))

  pub by_step : hardware n v k f y ≡ step_value x (pin_step f p) y
  by_step = by f.count refl q.moves
    where
      by : (o : Option Count) → f.count ≡ o → option_map_or is_plain_count o (f.hw_writes && is_pin f.source) ≡ true → hardware n v k f y ≡ step_value x (pin_step f p) y
      by None e h = by_load e h
      by (Some c) e h = by_count c e h

-- a plain field that is not under reset keeps what software leaves of what hardware made
module _ (b : Block) (sound : IsSound b) (n : Now) (v : ItemValues) (k : ℕ) (f : Field) (here : slice_get b.fields k ≡ Some f) (q : IsPlain f) (calm : is_asserted b n.pins f.reset_by ≡ false)
    (x : FieldState) (kept : kept_state f x ≡ x) (a : Access) where
  abbrev leaves : FieldState
  leaves = access_state b n v a k (begun_state n v k f x)

  abbrev before : FieldState
  before = access_state b n v a k (started_state n v k f x)

  abbrev after : FieldState
  after = next_state b n v k f before

  same_value : leaves.value ≡ before.value
  same_value =
      software_value b n v k f here a (begun_state n v k f x)
      ∙ (sym (ap (λ c. software b n v a k f (if c then x.value else hardware n v k f x.value)) q.first) ∙ sym (software_value b n v k f here a (started_state n v k f x)))

  value_left : leaves.value ≡ after.value
  value_left =
      let end : ℕ = if f.hw_first then hardware n v k f before.value else before.value in
      same_value
      ∙ (sym (ap (λ c. if c then hardware n v k f before.value else before.value) q.first) ∙ (sym (ap (λ c. if c then unwrap_or f.reset end else end) calm)
      ∙ sym (ap (λ c. if c then (if is_asserted b n.pins f.reset_by then unwrap_or f.reset end else end) else 0) q.class)))

  last_left : leaves.last ≡ after.last
  last_left =
      software_last b n v k f here a (begun_state n v k f x)
      ∙ (sym (ap (λ s. s.last) kept) ∙ (ap (λ l. if keeps_last l then x.last else 0) q.latch
      ∙ sym (ap (λ l. if keeps_last l then (if is_asserted b n.pins f.reset_by then 0 else before.last) else 0) q.latch)))

  mark_left : leaves.done ≡ after.done
  mark_left = software_done b n v k f here a (begun_state n v k f x) ∙ (sym (software_done b n v k f here a x) ∙ done_left b sound n v k f here calm x kept a)

  pub plain_left : leaves ≡ after
  plain_left = same_state leaves after value_left last_left mark_left

-- each field at an edge keeps what it keeps next, whether it rests or moves
pub at_edge : (b : Block) → IsSound b → (n : Now) (v : ItemValues) (k : ℕ) (f : Field) → slice_get b.fields k ≡ Some f → (a : Access) (is_reset : Bool) (old x started begun left new : FieldState)
    → started ≡ (if rests is_reset f then old else started_state n v k f x) → begun ≡ (if begins is_reset f then begun_state n v k f started else started)
    → left ≡ access_state b n v a k begun → new ≡ (if rests is_reset f then left else next_state b n v k f left)
    → (is_reset ≡ false → old ≡ x) → (is_reset ≡ false → kept_state f x ≡ x) → (is_reset ≡ false → is_asserted b n.pins f.reset_by ≡ false)
    → new ≡ next_state b n v k f (access_state b n v a k (started_state n v k f x))
at_edge b sound n v k f here a true old x started begun left new p q r s held kept calm = s ∙ ap (next_state b n v k f) (r ∙ ap (access_state b n v a k) (q ∙ p))
at_edge b sound n v k f here a false old x started begun left new p q r s held kept calm = by (is_quiet f) (is_plain f) refl refl
  where
    by : (c d : Bool) → is_quiet f ≡ c → is_plain f ≡ d → new ≡ next_state b n v k f (access_state b n v a k (started_state n v k f x))
    by c true e g =
        let light : is_light f ≡ true = ap (λ z. is_quiet f || z) g ∙ or_true (is_quiet f) in
        let at : started ≡ x = p ∙ (ap (λ z. if z then old else started_state n v k f x) light ∙ held refl) in
        let made : begun ≡ begun_state n v k f x = q ∙ (ap (λ z. if z then begun_state n v k f started else started) g ∙ ap (begun_state n v k f) at) in
        s ∙ (ap (λ z. if z then left else next_state b n v k f left) light
        ∙ (r ∙ (ap (access_state b n v a k) made ∙ plain_left b sound n v k f here (plainly f g) (calm refl) x (kept refl) a)))
    by true false e g =
        let light : is_light f ≡ true = ap (λ z. z || is_plain f) e in
        let at : begun ≡ x = q ∙ (ap (λ z. if z then begun_state n v k f started else started) g ∙ (p ∙ (ap (λ z. if z then old else started_state n v k f x) light ∙ held refl))) in
        s ∙ (ap (λ z. if z then left else next_state b n v k f left) light
        ∙ (r ∙ (ap (access_state b n v a k) at ∙ quiet_left b sound n v k f here e (calm refl) x (kept refl) a)))
    by false false e g =
        let heavy : is_light f ≡ false = ap (λ z. z || is_plain f) e ∙ g in
        let at : begun ≡ started_state n v k f x = q ∙ (ap (λ z. if z then begun_state n v k f started else started) g ∙ (p ∙ ap (λ z. if z then old else started_state n v k f x) heavy)) in
        s ∙ (ap (λ z. if z then left else next_state b n v k f left) heavy ∙ ap (next_state b n v k f) (r ∙ ap (access_state b n v a k) at))

-- no field is wider than 64 bits
pub fields_wide : (b : Block) → IsSound b → (fields : List Field) → fields ≡ b.fields → (k : ℕ) (f : Field) → slice_get fields k ≡ Some f → f.width ≤ 64
fields_wide b sound fields e k f here = (Each-from_zero (FieldIsSoundIn b) b.fields k f sound.fields (ap (λ fs. slice_get fs k) (sym e) ∙ here)).alone.wide.1
