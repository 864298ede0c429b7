-- The nodes that all others are made of.
use Rattle.std.specs.Prelude.{◌≡◌, ℕ, false, if◌then◌else◌, Option, Some, None, List, [], codes, length, slice_get}
use Rattle.std.specs.Option.{option_map_or}
use Rattle.rb_base.specs.declared.ports.Pin.{Pin}
use Rattle.rtl_net.specs.Net.{Net, Stands, IsInput, IsNode}
use Rattle.rtl_net.specs.Ids.{at}
use Rattle.rtl_net.specs.declared.node.Id.{Id}
use Rattle.rtl_net.specs.declared.node.NetReset.{NetReset}
use Rattle.rtl_net.specs.declared.node.NetReset.TheVariants as resets
use Rattle.rb_model.specs.declared.kinds.ResetBy.{ResetBy}
use Rattle.rb_model.specs.declared.block.Block.{Block}
use Rattle.rb_model.specs.declared.block.Field.{Field}
use Rattle.rb_model.specs.Kept.{Kept, Val, Last, Done, Waited, Data, Error, of_field, register_width, field_kept}
use Rattle.rb_model.specs.Ports.{input_pins}
use Rattle.rb_model.specs.Sound.{IsSound}
use Rattle.block_plan.specs.declared.plan.Plan.{Plan}
use Rattle.block_plan.specs.Pins.{is_access_pin}
use Rattle.block_plan.specs.Plan.{IsPlanOf}
use Rattle.gen_scene.specs.declared.base.Inlet.{Inlet}
use Rattle.gen_scene.specs.declared.base.Base.{Base}
use Rattle.gen_scene.specs.Worth.{IsWorth}

-- the nodes of an access: whether there is one, whether it writes, the number of its word, and the bits that it writes
pub record HasInlet (net : Net) (a : Inlet) : Type 0 where
  pub valid : Stands net a.valid 1
  pub write : Stands net a.write 1
  pub word : Stands net a.word 16
  pub bits : Stands net a.bits 32

-- the netlist's input of a pin
pub record IsPinNode (net : Net) (id : Id) (p : Pin) : Type 0 where
  pub input : IsInput net id p.name p.width
  pub node : IsNode net id p.width (λ v. v.ins p.name)

-- the nodes of a block's input pins by place; of those of a bus's access nothing is asked
pub record HasPins (b : Block) (net : Net) (pins : List Id) : Type 0 where
  pub long : length pins ≡ length (input_pins b)
  pub each : (k : ℕ) (p : Pin) → slice_get (input_pins b) k ≡ Some p → is_access_pin p.name ≡ false → IsPinNode net (at pins k) p

-- the registers of what the fields keep by place, each worth what it keeps once asynchronous resets have acted
pub record HasKept (b : Block) (a : Inlet) (net : Net) (kept : List Id) : Type 0 where
  pub long : length kept ≡ length (field_kept b)
  pub each : (j : ℕ) (k : Kept) → slice_get (field_kept b) j ≡ Some k → IsWorth b a net (at kept j) (register_width b k) (λ n v. n.kept k)

-- a netlist has the pins, the access and the registers of a sound block
pub record IsBase (net : Net) (s : Base) : Type 0 where
  pub sound : IsSound s.block.now
  pub planned : IsPlanOf s.block.now s.plan.now
  pub inlet : HasInlet net s.inlet
  pub pins : HasPins s.block.now net s.pins.now
  pub kept : HasKept s.block.now s.inlet net s.kept.now

-- Resets

-- the place of the pin of the signal of a number, or of PRESETn
abbrev pub signal_place : Plan → Option ℕ → ℕ
signal_place p signal = option_map_or (λ s. option_map_or (λ place. place) (slice_get p.signals.items s) p.bus.resetn) signal p.bus.resetn

-- how a register is reset, asynchronously, by a reset at this pin that leaves this number, if any
abbrev pub reset_for : Id → ResetBy → Option ℕ → NetReset
reset_for pin r None = resets.None
reset_for pin r (Some x) = if r.sync then resets.None else resets.Async pin r.low x

-- the number of the field of a kept value
abbrev pub kept_number : Kept → Option ℕ
kept_number (Val k) = Some k
kept_number (Last k) = Some k
kept_number (Done k) = Some k
kept_number Waited = None
kept_number Data = None
kept_number Error = None

-- the word before the field's path in the name of the register of a kept value, how wide it is, and what a reset leaves, if anything
abbrev pub kept_word : Kept → List ℕ
kept_word (Val k) = codes "val$"
kept_word (Last k) = codes "last$"
kept_word (Done k) = codes "done$"
kept_word Waited = []
kept_word Data = []
kept_word Error = []

abbrev pub kept_width : Kept → Field → ℕ
kept_width (Val k) f = f.width
kept_width (Last k) f = f.width
kept_width (Done k) f = 1
kept_width Waited f = 0
kept_width Data f = 0
kept_width Error f = 0

abbrev pub kept_reset : Kept → Field → Option ℕ
kept_reset (Val k) f = f.reset
kept_reset (Last k) f = Some 0
kept_reset (Done k) f = Some 0
kept_reset Waited f = None
kept_reset Data f = None
kept_reset Error f = None

-- how the register of a kept value of a field is reset
abbrev pub reset_in : Plan → List Id → Kept → Field → NetReset
reset_in p pins k f = reset_for (at pins (signal_place p f.reset_by.signal)) f.reset_by (kept_reset k f)

-- how the register of a kept value is reset
abbrev pub reset_of : Block → Plan → List Id → Kept → NetReset
reset_of b p pins k = option_map_or (λ m. of_field b m resets.None (reset_in p pins k)) (kept_number k) resets.None
