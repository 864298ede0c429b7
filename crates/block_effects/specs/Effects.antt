-- What a field does beyond storing what is written to it, in the order of a manual's sentences (SystemRDL 2.0, clause 9).
use Rattle.std.specs.Prelude.{ℕ, ◌+◌, ◌-◌, ◌==◌, Bool, true, false, not, ◌&&◌, cond, is_some, Option, None, Some, List, [], ◌∷◌, ◌++◌, map}
use Rattle.rb_base.specs.Bits.{ones}
use Rattle.rb_model.specs.declared.kinds.Class.{Class}
use Rattle.rb_model.specs.declared.kinds.Class.TheVariants.{Storage, Wire, Constant}
use Rattle.rb_model.specs.declared.kinds.Count.{Count}
use Rattle.rb_model.specs.declared.kinds.Feed.{Feed}
use Rattle.rb_model.specs.declared.kinds.Feed.TheVariants as feed
use Rattle.rb_model.specs.declared.kinds.Gate.{Gate}
use Rattle.rb_model.specs.declared.kinds.Level.{Level}
use Rattle.rb_model.specs.declared.kinds.Level.TheVariants as level
use Rattle.rb_model.specs.declared.kinds.OnWrite.{OnWrite}
use Rattle.rb_model.specs.declared.kinds.OnWrite.TheVariants as on_write
use Rattle.rb_model.specs.declared.kinds.Part.{Part}
use Rattle.rb_model.specs.declared.block.Field.{Field}
use Rattle.rb_model.specs.declared.block.Slot.{Slot}
use Rattle.rb_model.specs.declared.block.View.{View}
use Rattle.rb_model.specs.Effects.{has_read_effect, is_gated, loads}
use Rattle.rb_model.specs.Items.{is_interrupt, is_on}
use Rattle.rb_model.specs.Kept.{when}
use Rattle.rb_model.specs.SoundField.{is_fed, is_wire}
use Rattle.block_effects.specs.declared.kinds.Effect.{Effect}
use Rattle.block_effects.specs.declared.kinds.Effect.TheVariants as effect

-- Software

abbrev pub has_write_effect : OnWrite → Bool
has_write_effect on_write.Off = false
has_write_effect on_write.WoSet = true
has_write_effect on_write.WoClr = true
has_write_effect on_write.WoT = true
has_write_effect on_write.WzS = true
has_write_effect on_write.WzC = true
has_write_effect on_write.WzT = true
has_write_effect on_write.WClr = true
has_write_effect on_write.WSet = true

abbrev pub is_whole : Slot → Field → Bool
is_whole s f = s.from == 0 && s.bits == f.width

abbrev pub bits_effect : Slot → Field → Effect
bits_effect s f = effect.Bits (s.from + s.bits - 1) s.from f.width

-- what software's accesses do
abbrev pub access_effects : Slot → View → Field → List Effect
access_effects s v f = when (not (is_whole s f)) (bits_effect s f)
    ++ when (v.writes && v.once) effect.Once
    ++ when (v.writes && has_write_effect v.on_write) (effect.Writes v.on_write)
    ++ when (has_read_effect v.on_read) (effect.Reads v.on_read)
    ++ when (v.writes && is_gated v.gate) (effect.WritesWhile v.gate)

-- Hardware

abbrev pub input_effects : (interrupt taken : Bool) → Feed → List Effect
input_effects interrupt taken feed.Off = []
input_effects interrupt taken feed.Pin = []
input_effects interrupt taken (feed.Item i) = cond interrupt (effect.HasInput i ∷ []) (when taken (effect.Takes i))

abbrev pub load_effect : Gate → Effect
load_effect g = cond (is_gated g) (effect.LoadsWhile g) effect.Loads

abbrev pub is_loaded : Field → Bool
is_loaded f = not f.pulse && loads f

abbrev pub load_effects : Field → List Effect
load_effects f = cond (is_wire f.class) (effect.IsWire ∷ []) (when (is_loaded f) (load_effect f.gate))

abbrev pub source_effects : Field → List Effect
source_effects f = when f.pulse effect.Pulse
    ++ when (is_interrupt f.latch) (effect.Latches f.latch)
    ++ input_effects (is_interrupt f.latch) (loads f) f.source
    ++ load_effects f

abbrev pub stop_up : Option Level → Effect
stop_up None = effect.WrapsUp
stop_up (Some l) = effect.StopsUp l

abbrev pub stop_down : Option Level → Effect
stop_down None = effect.WrapsDown
stop_down (Some l) = effect.StopsDown l

abbrev pub up_effects : Option Part → Option Level → List Effect
up_effects None high = []
up_effects (Some p) high = effect.CountsUp p ∷ stop_up high ∷ []

abbrev pub down_effects : Option Part → Option Level → List Effect
down_effects None low = []
down_effects (Some p) low = effect.CountsDown p ∷ stop_down low ∷ []

abbrev pub is_number : ℕ → Level → Bool
is_number n (level.Number m) = m == n
is_number n (level.Item i) = false

-- thresholds where they aren't the ends of the counter's range
abbrev pub threshold_effects : ℕ → Count → List Effect
threshold_effects w c = when (not (is_number (ones w) c.above)) (effect.UpperThreshold c.above) ++ when (not (is_number 0 c.below)) (effect.LowerThreshold c.below)

abbrev pub count_effects : ℕ → Option Count → List Effect
count_effects w None = []
count_effects w (Some c) = up_effects c.up c.high ++ down_effects c.down c.low ++ threshold_effects w c

abbrev pub change_effects : Field → List Effect
change_effects f = when (is_fed f.set) (effect.SetWhile f.set)
    ++ when (is_fed f.clear) (effect.ClearedWhile f.clear)
    ++ when (is_on f.keep) (effect.Keeps f.keep)

-- Outputs

abbrev pub interrupt_effect : Field → Effect
interrupt_effect f = cond (is_on f.enable) (effect.Interrupts f.enable) effect.AllInterrupt

abbrev pub is_constant : Class → Bool
is_constant Storage = false
is_constant Wire = false
is_constant Constant = true

abbrev pub output_effects : Field → List Effect
output_effects f = when (is_interrupt f.latch) (interrupt_effect f)
    ++ when (is_interrupt f.latch && is_on f.halt) (effect.Halts f.halt)
    ++ when f.hw_first effect.HardwareFirst
    ++ when (is_constant f.class) effect.IsConstant
    ++ map effect.Shows f.shown

-- what hardware does
abbrev pub hardware_effects : Field → List Effect
hardware_effects f = source_effects f ++ count_effects f.width f.count ++ change_effects f ++ output_effects f

-- a reset by a signal, of a field that has a reset value
abbrev pub reset_effects : Field → List Effect
reset_effects f = when (is_some f.reset && is_some f.reset_by.signal) (effect.ResetBy f.reset_by)

-- what hardware does is said once, at the field's own view
abbrev pub behind_effects : View → Field → List Effect
behind_effects v f = cond v.alias (effect.ViewOf v.field ∷ []) (hardware_effects f)

-- all effects of bits of a field behind a view
abbrev pub effects : Slot → View → Field → List Effect
effects s v f = access_effects s v f ++ behind_effects v f ++ reset_effects f
