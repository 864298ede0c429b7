-- When a field of a block is sound.
use Rattle.std.specs.Prelude.{◌≡◌, ℕ, ◌^◌, ◌<◌, ◌≤◌, ◌==◌, Bool, true, false, not, ◌&&◌, ◌||◌, if◌then◌else◌, IsTrue, Some, is_some, ◌++◌, slice_get, map, count_by}
use Rattle.std.specs.List.{list_any}
use Rattle.std.specs.List.Sorted.{IsStrictlyIncreasing}
use Rattle.rb_model.specs.declared.kinds.Class.{Class}
use Rattle.rb_model.specs.declared.kinds.Class.TheVariants.{Storage, Wire, Constant}
use Rattle.rb_model.specs.declared.kinds.Feed.{Feed}
use Rattle.rb_model.specs.declared.kinds.Feed.TheVariants as feed
use Rattle.rb_model.specs.declared.kinds.Gate.{Gate}
use Rattle.rb_model.specs.declared.kinds.Gate.TheVariants as gate
use Rattle.rb_model.specs.declared.kinds.Amount.{Amount}
use Rattle.rb_model.specs.declared.kinds.Amount.TheVariants as amount
use Rattle.rb_model.specs.declared.kinds.Level.{Level}
use Rattle.rb_model.specs.declared.kinds.Level.TheVariants as level
use Rattle.rb_base.specs.declared.trigger.Trigger.{Trigger}
use Rattle.rb_base.specs.declared.trigger.Trigger.TheVariants as trigger
use Rattle.rb_model.specs.declared.kinds.Latch.{Latch}
use Rattle.rb_model.specs.declared.kinds.Latch.TheVariants as latch
use Rattle.rb_model.specs.declared.kinds.Shown.{Shown}
use Rattle.rb_model.specs.declared.kinds.Shown.TheVariants as shown
use Rattle.rb_model.specs.declared.kinds.Part.{Part}
use Rattle.rb_model.specs.declared.kinds.Count.{Count}
use Rattle.rb_model.specs.declared.block.Block.{Block}
use Rattle.rb_model.specs.declared.block.Signal.{Signal}
use Rattle.rb_model.specs.declared.block.Field.{Field}
use Rattle.rb_model.specs.declared.block.View.{View}
use Rattle.rb_model.specs.declared.block.Reg.{Reg}
use Rattle.rb_model.specs.Effects.{is_gated, loads, has_read_effect}
use Rattle.rb_model.specs.Items.{is_interrupt, is_on}
use Rattle.rb_model.specs.Ports.{is_pin}
use Rattle.rb_model.specs.References.{WithSome, feed_refs, gate_refs, mask_refs, level_refs, amount_refs, AreWide, AreWithin}

-- Fields alone

abbrev pub is_fed : Feed → Bool
is_fed feed.Off = false
is_fed feed.Pin = true
is_fed (feed.Item i) = true

abbrev pub is_gate_fed : Gate → Bool
is_gate_fed gate.Always = true
is_gate_fed (gate.High from) = is_fed from
is_gate_fed (gate.Low from) = is_fed from

abbrev pub is_wire : Class → Bool
is_wire Storage = false
is_wire Wire = true
is_wire Constant = false

abbrev pub is_nonsticky : Trigger → Bool
is_nonsticky trigger.Level = false
is_nonsticky trigger.Posedge = false
is_nonsticky trigger.Negedge = false
is_nonsticky trigger.Bothedge = false
is_nonsticky trigger.Nonsticky = true

abbrev pub holds_nonsticky : Latch → Bool
holds_nonsticky latch.Off = false
holds_nonsticky (latch.Bits e) = is_nonsticky e
holds_nonsticky (latch.Whole e) = is_nonsticky e
holds_nonsticky latch.Plain = false

abbrev pub is_of_counter : Shown → Bool
is_of_counter shown.Anded = false
is_of_counter shown.Ored = false
is_of_counter shown.Xored = false
is_of_counter shown.IncrThreshold = true
is_of_counter shown.DecrThreshold = true
is_of_counter shown.Overflow = true
is_of_counter shown.Underflow = true
is_of_counter shown.SwMod = false
is_of_counter shown.SwAcc = false

-- the place of an output among those of a field
abbrev pub shown_place : Shown → ℕ
shown_place shown.Anded = 0
shown_place shown.Ored = 1
shown_place shown.Xored = 2
shown_place shown.IncrThreshold = 3
shown_place shown.DecrThreshold = 4
shown_place shown.Overflow = 5
shown_place shown.Underflow = 6
shown_place shown.SwMod = 7
shown_place shown.SwAcc = 8

abbrev pub AmountFits : ℕ → Amount → Type 0
AmountFits w (amount.Number x) = x < 2 ^ w
AmountFits w (amount.Item i) = Unit {0}
AmountFits w (amount.Pin n) = (0 < n) × (n ≤ w)

abbrev pub PartFits : ℕ → Part → Type 0
PartFits w p = IsTrue (is_fed p.pulse) × AmountFits w p.amount

abbrev pub LevelFits : ℕ → Level → Type 0
LevelFits w (level.Number x) = x < 2 ^ w
LevelFits w (level.Item i) = Unit {0}

pub record CountFits (w : ℕ) (c : Count) : Type 0 where
  pub up : WithSome c.up (PartFits w)
  pub down : WithSome c.down (PartFits w)
  pub high : WithSome c.high (LevelFits w)
  pub low : WithSome c.low (LevelFits w)
  pub above : LevelFits w c.above
  pub below : LevelFits w c.below

-- what can be said of a field alone
pub record FieldIsSound (f : Field) : Type 0 where
  pub wide : (0 < f.width) × (f.width ≤ 64)
  pub reset : WithSome f.reset (λ r. r < 2 ^ f.width)
  pub count : WithSome f.count (CountFits f.width)
  -- at most one of a count, a latch and a pulse
  pub one_kind : IsTrue (not (is_some f.count && is_interrupt f.latch) && not (is_some f.count && f.pulse) && not (is_interrupt f.latch && f.pulse))
  pub written_by : IsTrue (is_interrupt f.latch || is_gated f.gate) → IsTrue f.hw_writes
  pub pulse_alone : IsTrue f.pulse → IsTrue (not f.hw_writes)
  pub gate_fed : IsTrue (is_gate_fed f.gate)
  pub source_fed : IsTrue (is_wire f.class || is_interrupt f.latch || loads f) → IsTrue (is_fed f.source)
  -- a field loads its pin only where it has one
  pub pin : IsTrue (is_pin f.source) → IsTrue (f.hw_writes && (not (is_some f.count) || is_gated f.gate))
  pub latch_trigger : IsTrue (not (holds_nonsticky f.latch))
  -- PRESETn is active low and asynchronous
  pub bus_reset : IsTrue (is_some f.reset_by.signal || f.reset_by.low && not f.reset_by.sync)
  pub shown_in_order : IsStrictlyIncreasing (map shown_place f.shown)
  pub shown_counts : IsTrue (is_some f.count || not (list_any is_of_counter f.shown))

-- Fields in a block

-- a view through which software changes the field
abbrev pub changes : View → Bool
changes v = v.writes || has_read_effect v.on_read

abbrev pub is_changed : Block → ℕ → Bool
is_changed b k = list_any (λ v. v.field == k && changes v) b.views

abbrev pub is_off : Feed → Bool
is_off x = not (is_fed x)

abbrev pub is_latching_or_counting : Field → Bool
is_latching_or_counting f = is_some f.count || is_interrupt f.latch && not (is_plain f.latch)
  where
    is_plain : Latch → Bool
    is_plain latch.Off = false
    is_plain (latch.Bits e) = false
    is_plain (latch.Whole e) = false
    is_plain latch.Plain = true

-- hardware alone gives the field's value
abbrev pub is_given : Block → ℕ → Field → Bool
is_given b k f = not (is_changed b k) && f.hw_writes && not f.hw_reads && not (is_gated f.gate) && not (is_latching_or_counting f) && is_off f.set && is_off f.clear && not (is_on f.keep)

abbrev pub class_of : Block → ℕ → Field → Class
class_of b k f = if is_given b k f then Wire else (if is_changed b k || f.hw_writes || is_some f.count || is_fed f.set || is_fed f.clear || f.pulse then Storage else Constant)

-- the references of a field lead to items of the right widths
pub record RefersWell (b : Block) (f : Field) : Type 0 where
  pub source : AreWide b f.width (feed_refs f.source)
  pub masks : AreWide b f.width (mask_refs f.keep ++ mask_refs f.enable ++ mask_refs f.halt)
  pub bits : AreWide b 1 (gate_refs f.gate ++ feed_refs f.set ++ feed_refs f.clear)
  pub pulses : WithSome f.count (λ c. WithSome c.up (λ p. AreWide b 1 (feed_refs p.pulse)) × WithSome c.down (λ p. AreWide b 1 (feed_refs p.pulse)))
  pub amounts : WithSome f.count (λ c. WithSome c.up (λ p. AreWithin b f.width (amount_refs p.amount)) × WithSome c.down (λ p. AreWithin b f.width (amount_refs p.amount)))
  pub levels : WithSome f.count (λ c. WithSome c.high (λ l. AreWithin b f.width (level_refs l)) × WithSome c.low (λ l. AreWithin b f.width (level_refs l)) × AreWithin b f.width (level_refs c.above ++ level_refs c.below))

pub record FieldIsSoundIn (b : Block) (f : ℕ × Field) : Type 0 where
  pub alone : FieldIsSound f.1
  pub refers : RefersWell b f.1
  pub in_register : (r : Reg) × (slice_get b.regs f.1.reg ≡ Some r) × (r.alias ≡ false)
  pub reset_signal : WithSome f.1.reset_by.signal (λ s. (g : Signal) × (slice_get b.signals s ≡ Some g) × (g.width ≡ 1))
  pub one_view : count_by (λ v. v.field == f.0 && not v.alias) b.views ≡ 1
  pub class : f.1.class ≡ class_of b f.0 f.1
  pub once : f.1.once ≡ list_any (λ v. v.field == f.0 && v.once) b.views
