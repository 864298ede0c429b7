-- The netlist of a block behind an AXI4-Lite slave port, by its parts.
use Rattle.std.specs.Prelude.{◌≡◌, ℕ, List, [], ◌∷◌, ◌++◌, codes, map}
use Rattle.rtl_net.specs.Value.{At, Values}
use Rattle.rtl_net.specs.Net.{Net, Settles, registers_of, undriven}
use Rattle.rtl_net.specs.declared.node.Id.{Id}
use Rattle.rtl_net.specs.declared.node.Seat.{Seat}
use Rattle.rb_model.specs.declared.block.Block.{Block}
use Rattle.rb_model.specs.Kept.{field_kept, kept_pin}
use Rattle.rb_model.specs.Ports.{outlets}
use Rattle.axi_model.specs.Channels.{Channels, channels_shown, next_channels}
use Rattle.axi_model.specs.Ports.{axi_ports}
use Rattle.gen_scene.specs.declared.base.Inlet.{Inlet}
use Rattle.gen_core.specs.Core.{IsCore}
use Rattle.gen_core.specs.Ties.{SeatsTaken, outlet_pin}
use Rattle.gen_ports.specs.Laid.{AreSeatsOf}
use Rattle.gen_channels.specs.Nodes.{contents_of, kept_seen, pins_seen}
use Rattle.gen_channels.specs.Slaves.{SaysAccess}
use Rattle.axi_lite.specs.Tables.{data_register, own_outputs, own_registers}

-- the port's outputs, in order
abbrev pub channel_outs : Values → List ℕ
channel_outs o = o (codes "AWREADY") ∷ o (codes "WREADY") ∷ o (codes "BRESP") ∷ o (codes "BVALID") ∷ o (codes "ARREADY") ∷ o (codes "RDATA") ∷ o (codes "RRESP") ∷ o (codes "RVALID") ∷ []

-- at each edge the outputs show what is kept and what is taken
pub record ShowsChannels (net : Net) : Type 0 where
  pub shown : (v : At) → Settles net v → channel_outs v.outs ≡ channels_shown (pins_seen v) (kept_seen v)

-- what is kept but for the read data
abbrev pub without_data : Channels → Channels
without_data c = record c { rdata = 0 }

-- after each edge the registers but for that of the read data contain what is kept
pub record KeepsRest (b : Block) (net : Net) : Type 0 where
  pub kept : (v : At) → Settles net v → without_data (contents_of v.after) ≡ without_data (next_channels b (pins_seen v) (kept_seen v) 0)

-- after each edge, at which the block answers with this node's value, the register of the read data contains what is kept of it
pub record KeepsData (b : Block) (net : Net) (answer : Id) : Type 0 where
  pub kept : (v : At) → Settles net v → v.after (codes "axi$rdata") ≡ (next_channels b (pins_seen v) (kept_seen v) (v.node answer.0)).rdata

-- The netlist has the block's ports behind the port, all taken, and the registers of both, all driven; its nodes are those of the port
-- and of the block's core.
pub record IsAxiBuilt (b : Block) (net : Net) : Type 0 where
  pub inlet : Inlet
  pub answer : Id
  pub core : IsCore b inlet net answer
  pub says : SaysAccess b net inlet
  pub shows : ShowsChannels net
  pub rest : KeepsRest b net
  pub read : KeepsData b net answer
  pub registers : registers_of net.nodes ≡ own_registers ++ map (kept_pin b) (field_kept b) ++ data_register ∷ []
  pub driven : undriven net.nodes ≡ 0
  pub laid : List Seat
  pub are_laid : AreSeatsOf laid (axi_ports b)
  pub seats : SeatsTaken laid net.seats (map outlet_pin (outlets b) ++ own_outputs)
