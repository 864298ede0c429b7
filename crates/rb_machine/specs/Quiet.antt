-- The fields on which no hardware acts, or hardware by one pin alone.
use Rattle.std.specs.Prelude.{◌≡◌, ℕ, ◌≤◌, ◌<◌, Bool, true, false, not, ◌&&◌, ◌||◌, is_some, Some, List, length, slice_get, get_or}
use Rattle.rb_model.specs.declared.block.Field.{Field}
use Rattle.rb_model.specs.Effects.{loads}
use Rattle.rb_model.specs.Items.{is_interrupt, is_on}
use Rattle.rb_model.specs.Kept.{is_storage, keeps_last}
use Rattle.rb_model.specs.SoundField.{is_fed}
use Rattle.rb_machine.specs.Plain.{is_plain}
use Rattle.rb_machine.specs.declared.quiet.Brief.{Brief}

-- Hardware leaves the kept value of such a field as it is: the field takes no number, is no counter, no interrupt and no
-- pulse, and has neither hwset nor hwclr nor a mask.
abbrev pub is_spared : Field → Bool
is_spared f = is_storage f.class && not (is_some f.count) && not (is_interrupt f.latch) && not f.pulse && not (loads f) && not (is_fed f.set) && not (is_fed f.clear) && not (is_on f.keep)

-- such a field keeps no value and no last input
abbrev pub keeps_none : Field → Bool
keeps_none f = not (is_storage f.class) && not (keeps_last f.latch)

-- what such a field keeps changes through software alone
abbrev pub is_quiet : Field → Bool
is_quiet f = is_spared f || keeps_none f

-- what is looked at of a field at an edge
abbrev pub brief_of : Field → Brief
brief_of f = record { width = f.width; stores = is_storage f.class }

-- hardware makes nothing of it, or something by one pin alone
abbrev pub is_light : Field → Bool
is_light f = is_quiet f || is_plain f

-- at an edge where no field is under reset it needs no look at all that it has
abbrev pub rests : (is_reset : Bool) → Field → Bool
rests is_reset f = not is_reset && is_light f

-- and one pin tells what hardware makes of it
abbrev pub begins : (is_reset : Bool) → Field → Bool
begins is_reset f = not is_reset && is_plain f

-- from place k on, j is the first whose field isn't light, or the end
pub record IsNextBusy (fields : List Field) (k j : ℕ) : Type 0 where
  pub onward : k ≤ j
  pub light : (m : ℕ) (f : Field) → k ≤ m → m < j → slice_get fields m ≡ Some f → is_light f ≡ true
  pub busy : (f : Field) → slice_get fields j ≡ Some f → is_light f ≡ false

-- so for all places of a list of fields
pub record AreNextBusy (fields : List Field) (next : List ℕ) : Type 0 where
  pub sized : length next ≡ length fields
  pub busy : (k : ℕ) → k < length fields → IsNextBusy fields k (get_or next k 0)
