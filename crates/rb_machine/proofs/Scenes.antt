-- What a field of a sound block finds at an edge.
use Rattle.std.proofs.Common.{◌≡◌, ℕ, ◌<◌, ◌≤◌, Some, None, List, ◌++◌, length, slice_get, get_or, refl, sym, ap, ◌∙◌, subst}
use Rattle.std.proofs.lemmas.Option.{slice_get_read, slice_get_past, same_Some}
use Rattle.rb_model.specs.declared.kinds.Gate.{Gate}
use Rattle.rb_model.specs.declared.kinds.Gate.TheVariants as gate
use Rattle.rb_model.specs.declared.block.Block.{Block}
use Rattle.rb_model.specs.declared.block.Field.{Field}
use Rattle.rb_model.specs.Ports.{input_pins}
use Rattle.rb_model.specs.Run.{pins_of}
use Rattle.std.specs.Option.{option_map_or}
use Rattle.rb_model.specs.Items.{Access, Now, class_value, down, made, up}
use Rattle.rb_model.specs.Effects.{overflows, underflows}
use Rattle.rb_model.specs.Kept.{Val}
use Rattle.rb_model.specs.declared.kinds.RefItem.TheVariants as item
use Rattle.rb_machine.specs.Table.{values_of}
use Rattle.rb_model.proofs.Eachs.{Each-from_zero}
use Rattle.rb_model.specs.SoundField.{FieldIsSoundIn}
use Rattle.block_plan.specs.declared.plan.FieldPlaces.{FieldPlaces}
use Rattle.rb_machine.specs.declared.sight.FieldNow.{FieldNow}
use Rattle.rb_machine.specs.declared.scene.EdgeState.{EdgeState}
use Rattle.block_plan.specs.Plan.{AreFieldPlaces, IsGatePlace, IsPlaceOf}
use Rattle.rb_machine.specs.Scene.{IsAt, IsEdgeState, map_of, now_in, state_at}
use Rattle.rb_machine.specs.Sight.{GateSees}
use Rattle.rb_machine.proofs.Placing.{place_at}
use Rattle.rb_model.specs.Sound.{IsSound}

-- an element that was read stands in a list that is another
pub read_at : {X : Type 0} (xs ys : List X) (k : ℕ) (x : X) → xs ≡ ys → k < length xs → x ≡ get_or xs k x → slice_get ys k ≡ Some x
read_at xs ys k x e l is = ap (λ zs. slice_get zs k) (sym e) ∙ slice_get_read xs (length xs) k x refl l is

pub gate_seen : (b : Block) → IsSound b → (n : Now) (x : List ℕ) → n.pins ≡ pins_of b x → length x ≡ length (input_pins b) → (g : Gate) (high low path : List ℕ) (place : ℕ) → IsGatePlace b g high low path place → GateSees n g high low path (get_or x place 0)
gate_seen b sound n x e l gate.Always high low path place h = tt
gate_seen b sound n x e l (gate.High from) high low path place h = rw e (place_at b sound (high ++ path) place h x l)
gate_seen b sound n x e l (gate.Low from) high low path place h = rw e (place_at b sound (low ++ path) place h x l)

pub is_at : (s : EdgeState) (values : List ℕ) (k : ℕ) (f : FieldNow) → IsEdgeState s → slice_get s.block.now.fields k ≡ Some f.field.now
    → slice_get s.plan.now.fields.items k ≡ Some f.places.now → state_at s.held.now.fields.items k ≡ f.state → f.pins.now ≡ s.pins.now → f.table.now ≡ values → IsAt s values k f
is_at s values k f scene here placed state pins table =
    let b = s.block.now in
    let (places, there, are) = scene.planned.fields k f.field.now here in
    let p : AreFieldPlaces b f.field.now f.places.now = subst (AreFieldPlaces b f.field.now) (same_Some places f.places.now (sym there ∙ placed)) are in
    let sound : FieldIsSoundIn b (k, f.field.now) = Each-from_zero (FieldIsSoundIn b) b.fields k f.field.now scene.sound.fields here in
    let at : (name : List ℕ) (place : ℕ) → IsPlaceOf b name place → pins_of b s.pins.now name ≡ get_or f.pins.now place 0
    = λ name place h. place_at b scene.sound name place h s.pins.now scene.pins ∙ ap (λ xs. get_or xs place 0) (sym pins) in
    record {
      here = here;
      table = table;
      wide = sound.alone.wide.1;
      sees = λ a. record {
        source = at _ f.places.now.source p.source;
        gate = rw pins (gate_seen b scene.sound (now_in s a) s.pins.now refl scene.pins f.field.now.gate _ _ f.field.now.path f.places.now.gate p.gate);
        set = at _ f.places.now.set p.set;
        clear = at _ f.places.now.clear p.clear;
        up_pulse = at _ f.places.now.up.pulse p.up.pulse;
        up_amount = at _ f.places.now.up.amount p.up.amount;
        down_pulse = at _ f.places.now.down.pulse p.down.pulse;
        down_amount = at _ f.places.now.down.amount p.down.amount;
        value = ap (λ t. t.value) state;
        last = ap (λ t. t.last) state;
        done = ap (λ t. t.done) state;
      };
      state = state;
    }

-- each field has places
pub has_places : (b : Block) (ps : List FieldPlaces) (k : ℕ) (f : Field) → ((k : ℕ) (f : Field) → slice_get b.fields k ≡ Some f → (places : FieldPlaces) × (slice_get ps k ≡ Some places) × AreFieldPlaces b f places)
    → slice_get b.fields k ≡ Some f → length ps ≤ k → ⊥
has_places b ps k f h here past = let (places, there, are) = h k f here in let e : None ≡ Some places = sym (slice_get_past ps k past) ∙ there in cc

-- the values of a field's items that are made from its pins
module _ (s : EdgeState) (values : List ℕ) (k : ℕ) (f : FieldNow) (at : IsAt s values k f) (a : Access) (r : ℕ) where
  pub made_field : r ≡ class_value (now_in s a) (values_of f.table.now) f.field.now.class k f.field.now → r ≡ made s.block.now (now_in s a) (values_of values) (item.Field k)
  made_field is = is ∙ (ap (λ t. class_value (now_in s a) (values_of t) f.field.now.class k f.field.now) at.table ∙ sym (ap (λ o. option_map_or (λ g. class_value (now_in s a) (values_of values) g.class k g) o 0) at.here))

  pub made_overflow : r ≡ overflows f.field.now.width (map_of s.held.now (Val k)) (up (now_in s a) (values_of f.table.now) f.field.now) (down (now_in s a) (values_of f.table.now) f.field.now)
      → r ≡ made s.block.now (now_in s a) (values_of values) (item.Overflow k)
  made_overflow is = is ∙ (ap (λ t. overflows f.field.now.width (map_of s.held.now (Val k)) (up (now_in s a) (values_of t) f.field.now) (down (now_in s a) (values_of t) f.field.now)) at.table
      ∙ sym (ap (λ o. option_map_or (λ g. overflows g.width (map_of s.held.now (Val k)) (up (now_in s a) (values_of values) g) (down (now_in s a) (values_of values) g)) o 0) at.here))

  pub made_underflow : r ≡ underflows (map_of s.held.now (Val k)) (up (now_in s a) (values_of f.table.now) f.field.now) (down (now_in s a) (values_of f.table.now) f.field.now)
      → r ≡ made s.block.now (now_in s a) (values_of values) (item.Underflow k)
  made_underflow is = is ∙ (ap (λ t. underflows (map_of s.held.now (Val k)) (up (now_in s a) (values_of t) f.field.now) (down (now_in s a) (values_of t) f.field.now)) at.table
      ∙ sym (ap (λ o. option_map_or (λ g. underflows (map_of s.held.now (Val k)) (up (now_in s a) (values_of values) g) (down (now_in s a) (values_of values) g)) o 0) at.here))
