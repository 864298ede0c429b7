-- The fields of which hardware makes something by the number at one pin alone.
use Rattle.std.specs.Prelude.{◌≡◌, ℕ, ◌<◌, ◌+◌, ◌%◌, ◌^◌, ◌==◌, Bool, true, false, not, ◌&&◌, if◌then◌else◌, is_some, Option, Some, None, List, slice_get, slice_index, bit_and}
use Rattle.std.specs.Option.{option_map_or}
use Rattle.rb_base.specs.Bits.{ones}
use Rattle.rb_model.specs.declared.kinds.Amount.{Amount}
use Rattle.rb_model.specs.declared.kinds.Amount.TheVariants as amount
use Rattle.rb_model.specs.declared.kinds.Part.{Part}
use Rattle.rb_model.specs.declared.kinds.Count.{Count}
use Rattle.rb_model.specs.declared.block.Field.{Field}
use Rattle.rb_model.specs.Effects.{is_gated}
use Rattle.rb_model.specs.Items.{is_interrupt, is_on}
use Rattle.rb_model.specs.Kept.{is_storage}
use Rattle.rb_model.specs.Ports.{is_pin}
use Rattle.rb_model.specs.SoundField.{is_fed}
use Rattle.block_plan.specs.declared.plan.FieldPlaces.{FieldPlaces}
use Rattle.rb_machine.specs.declared.plain.PinCount.{PinCount}
use Rattle.rb_machine.specs.declared.plain.PinStep.{PinStep}
use Rattle.rb_machine.specs.declared.plain.PlainField.{PlainField}
use Rattle.rb_machine.specs.declared.plain.PinStep.TheVariants as step
use Rattle.rb_machine.specs.declared.sight.FieldState.{FieldState}

abbrev pub is_number : Amount → Bool
is_number (amount.Number x) = true
is_number (amount.Item i) = false
is_number (amount.Pin w) = false

abbrev pub number_of : Amount → ℕ
number_of (amount.Number x) = x
number_of (amount.Item i) = 0
number_of (amount.Pin w) = 0

-- a counter counts in a direction by a number at a pin's pulse
abbrev pub counts_by_pin : Option Part → Bool
counts_by_pin None = false
counts_by_pin (Some p) = is_pin p.pulse && is_number p.amount

abbrev pub fixed_amount : Option Part → ℕ
fixed_amount None = 0
fixed_amount (Some p) = number_of p.amount

-- it counts up alone, and so, with no level at which it saturates
abbrev pub is_plain_count : Count → Bool
is_plain_count c = counts_by_pin c.up && not (is_some c.down) && not (is_some c.high) && not (is_some c.low)

abbrev pub moves_by_pin : Field → Bool
moves_by_pin f = option_map_or is_plain_count f.count (f.hw_writes && is_pin f.source)

-- Hardware makes something of such a field by one pin alone, and software has the last word: it loads a pin at each edge, or counts
-- by a pin, and has nothing else that hardware does.
abbrev pub is_plain : Field → Bool
is_plain f = is_storage f.class && not f.hw_first && not (is_interrupt f.latch) && not f.pulse && not (is_gated f.gate) && not (is_fed f.set) && not (is_fed f.clear) && not (is_on f.keep) && moves_by_pin f

-- what it does, by the places of its pins
abbrev pub pin_step : Field → FieldPlaces → PinStep
pin_step f p = option_map_or (λ c. step.Count (record { pin = p.up.pulse; amount = fixed_amount c.up; ones = ones f.width })) f.count (step.Load p.source)

-- it is such a field, and this is what it does
pub record IsPlainField (fields : List Field) (places : List FieldPlaces) (s : PlainField) : Type 0 where
  pub field : Field
  pub here : slice_get fields s.number ≡ Some field
  pub plain : is_plain field ≡ true
  pub step : (p : FieldPlaces) → slice_get places s.number ≡ Some p → s.step ≡ pin_step field p

-- their numbers rise
abbrev pub AreRising : List PlainField → Type 0
AreRising steps = (i j : ℕ) (s t : PlainField) → i < j → slice_get steps i ≡ Some s → slice_get steps j ≡ Some t → s.number < t.number

-- all such fields, in order
pub record AreSteps (fields : List Field) (places : List FieldPlaces) (steps : List PlainField) : Type 0 where
  pub each : (j : ℕ) (s : PlainField) → slice_get steps j ≡ Some s → IsPlainField fields places s
  pub rising : AreRising steps
  pub all : (k : ℕ) (f : Field) → slice_get fields k ≡ Some f → is_plain f ≡ true → (j : ℕ) × (s : PlainField) × (slice_get steps j ≡ Some s) × (s.number ≡ k)

-- what a step makes of a value, where the pins have these numbers
abbrev pub counted_up : List ℕ → PinCount → ℕ → ℕ
counted_up pins c x = bit_and ((x + (if slice_index pins c.pin == 0 then 0 else c.amount)) % 2 ^ 64) c.ones

abbrev pub step_value : List ℕ → PinStep → ℕ → ℕ
step_value pins (step.Load pin) x = slice_index pins pin
step_value pins (step.Count c) x = counted_up pins c x

abbrev pub begun_by : List ℕ → PinStep → FieldState → FieldState
begun_by pins s x = record { value = step_value pins s x.value; last = x.last; done = x.done }
