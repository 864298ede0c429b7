-- The pins of a bus.
use Rattle.std.specs.Prelude.{codes}
use Rattle.rtl_net.specs.Net.{Net}
use Rattle.rb_model.specs.Ports.{pin}
use Rattle.gen_scene.specs.Bases.{IsPinNode}
use Rattle.gen_apb.specs.declared.pins.BusPins.{BusPins}

-- these are the nodes of the bus's pins
pub record HasBusPins (net : Net) (p : BusPins) : Type 0 where
  pub resetn : IsPinNode net p.resetn (pin (codes "PRESETn") 1)
  pub address : IsPinNode net p.address (pin (codes "PADDR") 32)
  pub select : IsPinNode net p.select (pin (codes "PSEL") 1)
  pub enable : IsPinNode net p.enable (pin (codes "PENABLE") 1)
  pub write : IsPinNode net p.write (pin (codes "PWRITE") 1)
  pub data_in : IsPinNode net p.data_in (pin (codes "PWDATA") 32)
