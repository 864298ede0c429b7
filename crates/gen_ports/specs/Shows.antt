-- The outputs of a bus in a netlist.
use Rattle.std.specs.Prelude.{◌≡◌, ℕ, Some, List, [], ◌∷◌, IsTrue, slice_get}
use Rattle.rb_base.specs.declared.ports.Pin.{Pin}
use Rattle.rtl_net.specs.Value.{At}
use Rattle.rtl_net.specs.Names.{is_net_name}
use Rattle.rtl_net.specs.Net.{Net, Settles}
use Rattle.rtl_net.specs.Ids.{at}
use Rattle.rtl_net.specs.Ports.{IsFree, seated}
use Rattle.rtl_net.specs.declared.node.Id.{Id}
use Rattle.rtl_net.specs.declared.node.Seat.{Seat}
use Rattle.rtl_net.specs.declared.node.Occupant.TheVariants.{Output}
use Rattle.gen_ports.specs.Registers.{HaveNames}

-- outputs of these names and widths may be added
pub record CanShow (net : Net) (pins : List Pin) : Type 0 where
  pub each : (k : ℕ) (r : Pin) → slice_get pins k ≡ Some r → IsTrue (is_net_name r.name) × IsFree net r.name r.width
  pub apart : HaveNames pins

-- the seats where outputs of these names and widths show these nodes, each taken after the one before
abbrev pub shown_seats : List Seat → List Pin → List Id → List Seat
shown_seats ss [] ids = ss
shown_seats ss (r ∷ pins) [] = ss
shown_seats ss (r ∷ pins) (id ∷ ids) = shown_seats (seated ss r.name r.width (Output id)) pins ids

-- at each edge they show these nodes
pub record ShowNodes (net : Net) (pins : List Pin) (ids : List Id) : Type 0 where
  pub each : (k : ℕ) (r : Pin) → slice_get pins k ≡ Some r → (v : At) → Settles net v → v.outs r.name ≡ v.node (at ids k).0
