-- The pins that fields, views, signals and resets use are pins of the block behind any bus.
use Rattle.std.proofs.Common.{◌≡◌, ℕ, Bool, true, false, if◌then◌else◌, Option, Some, None, List, ◌++◌, codes, slice_get, refl}
use Rattle.rb_base.specs.declared.ports.Pin.{Pin}
use Rattle.rb_model.specs.declared.kinds.Feed.{Feed}
use Rattle.rb_model.specs.declared.kinds.Feed.TheVariants as feed
use Rattle.rb_model.specs.declared.kinds.Gate.{Gate}
use Rattle.rb_model.specs.declared.kinds.Gate.TheVariants as gate
use Rattle.rb_model.specs.declared.kinds.Amount.{Amount}
use Rattle.rb_model.specs.declared.kinds.Amount.TheVariants as amount
use Rattle.rb_model.specs.declared.kinds.Part.{Part}
use Rattle.rb_model.specs.declared.kinds.Count.{Count}
use Rattle.rb_model.specs.declared.block.Block.{Block}
use Rattle.rb_model.specs.declared.block.Field.{Field}
use Rattle.rb_model.specs.declared.block.Signal.{Signal}
use Rattle.rb_model.specs.declared.block.View.{View}
use Rattle.rb_model.specs.Ports.{pin, signal_name, input_pins}
use Rattle.rb_model.specs.PinsHave.{FeedHas, GateHas, AmountHas, ViewHas}
use Rattle.rb_model.specs.References.{Each}
use Rattle.rb_model.specs.Sound.{IsSound}
use Rattle.rb_model.proofs.ValueWidths.{each_place}
use Rattle.block_plan.specs.Pins.{IsDataPin, is_access_pin}
use Rattle.block_plan.proofs.PinUses.{FieldHas, PartHas, CountHas, bus_has, block_signal_has, field_has, view_has}

-- a pin that the block has
record IsPin (b : Block) (p : Pin) : Type 0 where
  place : ℕ
  here : slice_get (input_pins b) place ≡ Some p

module _ (b : Block) (sound : IsSound b) where
  all : Each (IsPin b) (input_pins b)
  all = each_place (IsPin b) (input_pins b) (λ k p e. record { place = k; here = e })

  data_feed : (x : Feed) (name : List ℕ) (w : ℕ) → is_access_pin name ≡ false → FeedHas (IsPin b) x name w → FeedHas (IsDataPin b) x name w
  data_feed feed.Off name w o h = tt
  data_feed feed.Pin name w o h = record { place = h.place; here = h.here; other = o }
  data_feed (feed.Item i) name w o h = tt

  data_gate : (g : Gate) (high low path : List ℕ) → is_access_pin (high ++ path) ≡ false → is_access_pin (low ++ path) ≡ false → GateHas (IsPin b) g high low path → GateHas (IsDataPin b) g high low path
  data_gate gate.Always high low path p q h = tt
  data_gate (gate.High from) high low path p q h = data_feed from (high ++ path) 1 p h
  data_gate (gate.Low from) high low path p q h = data_feed from (low ++ path) 1 q h

  data_amount : (a : Amount) (name : List ℕ) → is_access_pin name ≡ false → AmountHas (IsPin b) a name → AmountHas (IsDataPin b) a name
  data_amount (amount.Number n) name o h = tt
  data_amount (amount.Item i) name o h = tt
  data_amount (amount.Pin w) name o h = record { place = h.place; here = h.here; other = o }

  data_part : (p : Option Part) (pulse value : List ℕ) → is_access_pin pulse ≡ false → is_access_pin value ≡ false → PartHas (IsPin b) p pulse value → PartHas (IsDataPin b) p pulse value
  data_part None pulse value o q h = tt
  data_part (Some p) pulse value o q h = (data_feed p.pulse pulse 1 o h.0, data_amount p.amount value q h.1)

  data_count : (c : Option Count) (path : List ℕ) → CountHas (IsPin b) c path → CountHas (IsDataPin b) c path
  data_count None path h = tt
  data_count (Some c) path h = (data_part c.up (codes "incr$" ++ path) (codes "incrvalue$" ++ path) refl refl h.0, data_part c.down (codes "decr$" ++ path) (codes "decrvalue$" ++ path) refl refl h.1)

  pub field_data : (k : ℕ) (f : Field) → slice_get b.fields k ≡ Some f → FieldHas (IsDataPin b) f
  field_data k f e =
      let h = field_has (IsPin b) b sound all k f e in
      record {
        source = data_feed f.source (codes "in$" ++ f.path) f.width refl h.source;
        gate = data_gate f.gate (codes "we$") (codes "wel$") f.path refl refl h.gate;
        set = data_feed f.set (codes "hwset$" ++ f.path) 1 refl h.set;
        clear = data_feed f.clear (codes "hwclr$" ++ f.path) 1 refl h.clear;
        count = data_count f.count f.path h.count;
      }

  pub view_data : (j : ℕ) (v : View) → slice_get b.views j ≡ Some v → ViewHas (IsDataPin b) v
  view_data j v e = data_gate v.gate (codes "swwe$") (codes "swwel$") v.path refl refl (view_has (IsPin b) b sound all j v e)

  signal_other : (s : Signal) (c : Bool) → is_access_pin ((if c then codes "global$" else codes "signal$") ++ s.path) ≡ false
  signal_other s true = refl
  signal_other s false = refl

  pub signal_data : (k : ℕ) (s : Signal) → slice_get b.signals k ≡ Some s → IsDataPin b (pin (signal_name s) s.width)
  signal_data k s e = let h = block_signal_has (IsPin b) b sound all k s e in record { place = h.place; here = h.here; other = signal_other s s.root }

  pub resetn_data : IsDataPin b (pin (codes "PRESETn") 1)
  resetn_data = let h = (bus_has (IsPin b) b sound all).0 in record { place = h.place; here = h.here; other = refl }
