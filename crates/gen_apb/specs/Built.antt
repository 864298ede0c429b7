-- The netlist of a block behind an APB slave port, by its parts.
use Rattle.std.specs.Prelude.{◌≡◌, List, [], ◌∷◌, ◌++◌, codes, map}
use Rattle.rb_base.specs.declared.ports.Pin.{Pin}
use Rattle.rtl_net.specs.Value.{At}
use Rattle.rtl_net.specs.Net.{Net, Settles, registers_of, undriven}
use Rattle.rtl_net.specs.declared.node.Id.{Id}
use Rattle.rtl_net.specs.declared.node.Seat.{Seat}
use Rattle.rb_model.specs.declared.block.Block.{Block}
use Rattle.rb_model.specs.Ports.{outlets, pin, ports}
use Rattle.rb_model.specs.Kept.{field_kept, kept_pin}
use Rattle.gen_ports.specs.Laid.{AreSeatsOf}
use Rattle.gen_apb.specs.declared.front.Front.{Front}
use Rattle.gen_apb.specs.Fronts.{IsFront, ShowsData, access_registers, data_registers}
use Rattle.gen_core.specs.Core.{IsCore}
use Rattle.gen_core.specs.Ties.{SeatsTaken, outlet_pin}

-- the outputs of the bus
abbrev pub bus_shown : List Pin
bus_shown = pin (codes "PREADY") 1 ∷ pin (codes "PRDATA") 32 ∷ pin (codes "PSLVERR") 1 ∷ []

-- at each edge the outputs of the bus show these nodes
pub record ShowsBus (net : Net) (ready answered failed : Id) : Type 0 where
  pub ready_shown : (v : At) → Settles net v → v.outs (codes "PREADY") ≡ v.node ready.0
  pub data_shown : (v : At) → Settles net v → v.outs (codes "PRDATA") ≡ v.node answered.0
  pub error_shown : (v : At) → Settles net v → v.outs (codes "PSLVERR") ≡ v.node failed.0

-- The netlist has the block's ports, all taken, and the registers of its kept values, all driven; its nodes are those of the bus and of
-- the block's core.
pub record IsBuilt (b : Block) (net : Net) : Type 0 where
  pub front : Front
  pub answer : Id
  pub shown : Id
  pub is_front : IsFront b net front
  pub is_core : IsCore b front.inlet net answer
  pub is_data : ShowsData net front.closes answer shown
  pub is_shown : ShowsBus net front.ready shown front.error
  pub registers : registers_of net.nodes ≡ access_registers b ++ map (kept_pin b) (field_kept b) ++ data_registers front.closes
  pub driven : undriven net.nodes ≡ 0
  pub laid : List Seat
  pub are_laid : AreSeatsOf laid (ports b)
  pub seats : SeatsTaken laid net.seats (map outlet_pin (outlets b) ++ bus_shown)
