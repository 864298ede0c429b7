-- The registers of a bus in a netlist.
use Rattle.std.specs.Prelude.{◌≡◌, ℕ, ◌==◌, true, if◌then◌else◌, Some, List, IsTrue, codes, length, slice_get}
use Rattle.rb_base.specs.declared.ports.Pin.{Pin}
use Rattle.rtl_net.specs.Value.{At}
use Rattle.rtl_net.specs.Names.{is_net_name}
use Rattle.rtl_net.specs.Net.{Net, Awaits, IsInput, IsNode, IsWidth, Settles, Stands}
use Rattle.rtl_net.specs.Ids.{at}
use Rattle.rtl_net.specs.Ports.{IsNew}
use Rattle.rtl_net.specs.declared.node.Id.{Id}
use Rattle.rtl_net.specs.declared.node.NetReset.{NetReset}
use Rattle.rtl_net.specs.declared.node.NetReset.TheVariants as resets
use Rattle.gen_ports.specs.declared.pin.BusPin.{BusPin}

abbrev pub pin_of : BusPin → Pin
pin_of r = record { name = r.name.now; width = r.width }

-- the input PRESETn
pub record IsResetn (net : Net) (id : Id) : Type 0 where
  pub input : IsInput net id (codes "PRESETn") 1
  pub node : IsNode net id 1 (λ v. v.ins (codes "PRESETn"))

-- a reset by PRESETn, which is active low
abbrev pub by_resetn : Id → NetReset
by_resetn resetn = resets.Async resetn true 0

-- what a register that PRESETn clears contains
abbrev pub cleared : List ℕ → At → ℕ
cleared name v = if v.ins (codes "PRESETn") == 0 then 0 else v.kept name

-- no two of them have one name
abbrev pub HaveNames : List Pin → Type 0
HaveNames pins = (i j : ℕ) (r s : Pin) → slice_get pins i ≡ Some r → slice_get pins j ≡ Some s → r.name ≡ s.name → i ≡ j

-- registers of these names and widths may be added
pub record CanAdd (net : Net) (pins : List Pin) : Type 0 where
  pub each : (k : ℕ) (r : Pin) → slice_get pins k ≡ Some r → IsTrue (is_net_name r.name) × IsWidth r.width × IsNew net r.name
  pub apart : HaveNames pins

-- they are added, and still to be driven
pub record AreCleared (net : Net) (resetn : Id) (pins : List Pin) (ids : List Id) : Type 0 where
  pub long : length ids ≡ length pins
  pub awaits : (k : ℕ) (r : Pin) → slice_get pins k ≡ Some r → Awaits net (at ids k) r.name r.width (by_resetn resetn)
  pub nodes : (k : ℕ) (r : Pin) → slice_get pins k ≡ Some r → IsNode net (at ids k) r.width (cleared r.name)

-- nodes of their widths, in order
pub record HaveWidths (net : Net) (pins : List Pin) (ids : List Id) : Type 0 where
  pub long : length ids ≡ length pins
  pub each : (k : ℕ) (r : Pin) → slice_get pins k ≡ Some r → Stands net (at ids k) r.width

-- after each edge they contain what these nodes are, and 0 under PRESETn
pub record TakeNexts (net : Net) (pins : List Pin) (nexts : List Id) : Type 0 where
  pub each : (k : ℕ) (r : Pin) → slice_get pins k ≡ Some r → (v : At) → Settles net v → v.after r.name ≡ (if v.ins (codes "PRESETn") == 0 then 0 else v.node (at nexts k).0)
