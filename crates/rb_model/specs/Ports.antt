-- The ports of a block, in order: those of an APB slave (IHI 0024B), and those of its signals, fields and registers.
use Rattle.std.specs.Prelude.{ℕ, ◌==◌, Bool, true, false, not, ◌&&◌, if◌then◌else◌, Option, Some, None, List, [], ◌∷◌, ◌++◌, codes, map, filter}
use Rattle.std.specs.List.{enumerate_from, flat_map}
use Rattle.std.specs.Str.{bytes_eq}
use Rattle.rb_base.specs.declared.ports.Dir.TheVariants.{In, Out}
use Rattle.rb_base.specs.declared.ports.Port.{Port}
use Rattle.rb_base.specs.declared.ports.Pin.{Pin}
use Rattle.v_design.specs.Expr.{Values}
use Rattle.v_design.specs.Design.{inputs_among}
use Rattle.rb_model.specs.declared.kinds.RefItem.{RefItem}
use Rattle.rb_model.specs.declared.kinds.RefItem.TheVariants as item
use Rattle.rb_model.specs.declared.kinds.Feed.{Feed}
use Rattle.rb_model.specs.declared.kinds.Feed.TheVariants as feed
use Rattle.rb_model.specs.declared.kinds.Gate.{Gate}
use Rattle.rb_model.specs.declared.kinds.Gate.TheVariants as gate
use Rattle.rb_model.specs.declared.kinds.Amount.{Amount}
use Rattle.rb_model.specs.declared.kinds.Amount.TheVariants as amount
use Rattle.rb_model.specs.declared.kinds.Part.{Part}
use Rattle.rb_model.specs.declared.kinds.Count.{Count}
use Rattle.rb_model.specs.declared.kinds.Shown.{Shown}
use Rattle.rb_model.specs.declared.kinds.Shown.TheVariants as shown
use Rattle.rb_model.specs.declared.block.Block.{Block}
use Rattle.rb_model.specs.declared.block.Signal.{Signal}
use Rattle.rb_model.specs.declared.block.Field.{Field}
use Rattle.rb_model.specs.declared.block.View.{View}
use Rattle.rb_model.specs.declared.block.Reg.{Reg}
use Rattle.rb_model.specs.Kept.{when}

-- an output, and the item that it shows
pub record Outlet : Type 0 where
  pub name : List ℕ
  pub width : ℕ
  pub item : RefItem

abbrev pub pin : List ℕ → ℕ → Pin
pin name width = record { name = name; width = width }

abbrev pub input : Pin → Port
input p = record { dir = In; name = p.name; width = p.width }

abbrev pub output : Outlet → Port
output o = record { dir = Out; name = o.name; width = o.width }

abbrev pub bus_inputs : List Pin
bus_inputs = pin (codes "PCLK") 1 ∷ pin (codes "PRESETn") 1 ∷ pin (codes "PADDR") 32 ∷ pin (codes "PSEL") 1 ∷ pin (codes "PENABLE") 1 ∷ pin (codes "PWRITE") 1 ∷ pin (codes "PWDATA") 32 ∷ []

abbrev pub bus_outputs : List Port
bus_outputs = record { dir = Out; name = codes "PREADY"; width = 1 } ∷ record { dir = Out; name = codes "PRDATA"; width = 32 } ∷ record { dir = Out; name = codes "PSLVERR"; width = 1 } ∷ []

abbrev pub signal_name : Signal → List ℕ
signal_name s = (if s.root then codes "global$" else codes "signal$") ++ s.path

abbrev pub signal_pins : Bool → List Signal → List Pin
signal_pins root signals = map (λ s. pin (signal_name s) s.width) (filter (λ s. if root then s.root else not s.root) signals)

abbrev pub is_pin : Feed → Bool
is_pin feed.Off = false
is_pin feed.Pin = true
is_pin (feed.Item i) = false

-- the pin of a gate, whose words these are
abbrev pub gate_pins : Gate → (high low path : List ℕ) → List Pin
gate_pins gate.Always high low path = []
gate_pins (gate.High from) high low path = when (is_pin from) (pin (high ++ path) 1)
gate_pins (gate.Low from) high low path = when (is_pin from) (pin (low ++ path) 1)

abbrev pub amount_pins : Amount → List ℕ → List Pin
amount_pins (amount.Number n) name = []
amount_pins (amount.Item i) name = []
amount_pins (amount.Pin w) name = pin name w ∷ []

abbrev pub part_pins : Option Part → (pulse value : List ℕ) → List Pin
part_pins None pulse value = []
part_pins (Some p) pulse value = when (is_pin p.pulse) (pin pulse 1) ++ amount_pins p.amount value

abbrev pub count_pins : Option Count → List ℕ → List Pin
count_pins None path = []
count_pins (Some c) path = part_pins c.up (codes "incr$" ++ path) (codes "incrvalue$" ++ path) ++ part_pins c.down (codes "decr$" ++ path) (codes "decrvalue$" ++ path)

abbrev pub view_pins : View → List Pin
view_pins v = gate_pins v.gate (codes "swwe$") (codes "swwel$") v.path

abbrev pub field_pins : List View → ℕ × Field → List Pin
field_pins views f = when (is_pin f.1.source) (pin (codes "in$" ++ f.1.path) f.1.width)
    ++ gate_pins f.1.gate (codes "we$") (codes "wel$") f.1.path
    ++ flat_map view_pins (filter (λ v. v.field == f.0 && not v.alias) views)
    ++ when (is_pin f.1.set) (pin (codes "hwset$" ++ f.1.path) 1)
    ++ when (is_pin f.1.clear) (pin (codes "hwclr$" ++ f.1.path) 1)
    ++ count_pins f.1.count f.1.path

abbrev pub shown_word : Shown → List ℕ
shown_word shown.Anded = codes "anded$"
shown_word shown.Ored = codes "ored$"
shown_word shown.Xored = codes "xored$"
shown_word shown.IncrThreshold = codes "incrthreshold$"
shown_word shown.DecrThreshold = codes "decrthreshold$"
shown_word shown.Overflow = codes "overflow$"
shown_word shown.Underflow = codes "underflow$"
shown_word shown.SwMod = codes "swmod$"
shown_word shown.SwAcc = codes "swacc$"

abbrev pub shown_item : ℕ → Shown → RefItem
shown_item k shown.Anded = item.Anded k
shown_item k shown.Ored = item.Ored k
shown_item k shown.Xored = item.Xored k
shown_item k shown.IncrThreshold = item.IncrThreshold k
shown_item k shown.DecrThreshold = item.DecrThreshold k
shown_item k shown.Overflow = item.Overflow k
shown_item k shown.Underflow = item.Underflow k
shown_item k shown.SwMod = item.SwMod k
shown_item k shown.SwAcc = item.SwAcc k

abbrev pub outlet : List ℕ → ℕ → RefItem → Outlet
outlet name width i = record { name = name; width = width; item = i }

abbrev pub field_outlets : ℕ × Field → List Outlet
field_outlets f = when f.1.hw_reads (outlet (codes "out$" ++ f.1.path) f.1.width (item.Field f.0))
    ++ map (λ s. outlet (shown_word s ++ f.1.path) 1 (shown_item f.0 s)) f.1.shown

abbrev pub reg_outlets : ℕ × Reg → List Outlet
reg_outlets r = when r.1.intr (outlet (codes "intr$" ++ r.1.path) 1 (item.Intr r.0)) ++ when r.1.halt (outlet (codes "halt$" ++ r.1.path) 1 (item.Halt r.0))

abbrev pub field_ports : List View → ℕ × Field → List Port
field_ports views f = map input (field_pins views f) ++ map output (field_outlets f)

-- the ports behind those of the bus
abbrev pub block_ports : Block → List Port
block_ports b = map input (signal_pins true b.signals) ++ map input (signal_pins false b.signals)
    ++ flat_map (field_ports b.views) (enumerate_from 0 b.fields)
    ++ map input (flat_map view_pins (filter (λ v. v.alias) b.views))
    ++ map output (flat_map reg_outlets (enumerate_from 0 b.regs))

abbrev pub ports : Block → List Port
ports b = map input bus_inputs ++ bus_outputs ++ block_ports b

-- the outputs behind those of the bus
abbrev pub outlets : Block → List Outlet
outlets b = flat_map field_outlets (enumerate_from 0 b.fields) ++ flat_map reg_outlets (enumerate_from 0 b.regs)

-- input ports without the clock
abbrev pub input_pins : Block → List Pin
input_pins b = inputs_among (ports b)

-- the numbers of a vector by the names of their pins
abbrev pub by_name : List Pin → List ℕ → Values
by_name [] xs n = 0
by_name (p ∷ ps) [] n = 0
by_name (p ∷ ps) (x ∷ xs) n = if bytes_eq p.name n then x else by_name ps xs n

abbrev pub module_name : Block → List ℕ
module_name b = b.name ++ codes "_regs"
