-- When a netlist is that of a block behind a bus.
use Rattle.std.specs.Prelude.{◌≡◌, ◌↔◌, ℕ, List, Contains, map}
use Rattle.rb_base.specs.declared.ports.Pin.{Pin}
use Rattle.rtl_net.specs.Value.{Values}
use Rattle.rtl_net.specs.Net.{Net}
use Rattle.rtl_net.specs.Made.{IsMade}
use Rattle.rtl_net.specs.Run.{NetRun, registers}
use Rattle.rtl_net.specs.Fits.{AllFit}
use Rattle.v_printer.specs.Module as printed
use Rattle.v_printer.specs.TextOf.{IsWhole}
use Rattle.rb_model.specs.Front.{Front, Contain, FrontRun, IsWithin, front_inputs, pins_at, register_pins}

-- The netlist is one of the block behind its bus: whole, of its name, ports and registers, and from any start, for any vectors that
-- keep the protocol, with the outputs of the block's machine.
pub record IsNetlistOf (net : Net) (F : Front) : Type 0 where
  pub made : IsMade net
  pub whole : IsWhole net
  pub named : net.name ≡ F.name
  pub ported : printed.ports net ≡ F.ports
  pub kept_only : (p : Pin) → Contains (registers net) p ↔ Contains (register_pins F) p
  pub runs : (k : F.Kept) (contents : Values) (vectors outputs : List (List ℕ)) → IsWithin F k → Contain F k contents
      → AllFit (front_inputs F) vectors → F.Keeps (map (pins_at F) vectors)
      → FrontRun F k vectors outputs → NetRun net contents vectors outputs
