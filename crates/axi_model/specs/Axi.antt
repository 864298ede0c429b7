-- A block behind an AXI4-Lite slave port (IHI 0022, chapter B1).
use Rattle.std.specs.Prelude.{ℕ, List, [], ◌∷◌, ◌++◌, codes, map}
use Rattle.v_design.specs.Expr.{Values}
use Rattle.rb_model.specs.declared.block.Block.{Block}
use Rattle.rb_model.specs.Kept.{Map, field_kept, only_kept, register_name, register_width}
use Rattle.rb_model.specs.Items.{Now, ItemValues}
use Rattle.rb_model.specs.Machine as machine
use Rattle.rb_model.specs.Machine.{next, outputs, read_data}
use Rattle.rb_model.specs.Front.{Front, Register}
use Rattle.axi_model.specs.Ports.{axi_name, axi_ports}
use Rattle.axi_model.specs.Channels.{Channels, access, channel_pins, channels_shown, held, next_channels}

-- what the fields keep, and what the port keeps
pub record AxiKept : Type 0 where
  pub fields : Map
  pub channels : Channels

-- the registers of what the fields keep
abbrev pub field_registers : Block → List (Register AxiKept)
field_registers b = map (λ k. record { name = register_name b k; width = register_width b k; value = λ m. m.fields k }) (field_kept b)

-- those of the port
abbrev pub channel_registers : List (Register AxiKept)
channel_registers =
    record { name = codes "axi$aw"; width = 1; value = λ m. m.channels.aw }
    ∷ record { name = codes "axi$awaddr"; width = 32; value = λ m. m.channels.awaddr }
    ∷ record { name = codes "axi$w"; width = 1; value = λ m. m.channels.w }
    ∷ record { name = codes "axi$wdata"; width = 32; value = λ m. m.channels.wdata }
    ∷ record { name = codes "axi$wstrb"; width = 4; value = λ m. m.channels.wstrb }
    ∷ record { name = codes "axi$b"; width = 1; value = λ m. m.channels.b }
    ∷ record { name = codes "axi$bresp"; width = 2; value = λ m. m.channels.bresp }
    ∷ record { name = codes "axi$r"; width = 1; value = λ m. m.channels.r }
    ∷ record { name = codes "axi$rdata"; width = 32; value = λ m. m.channels.rdata }
    ∷ record { name = codes "axi$rresp"; width = 2; value = λ m. m.channels.rresp } ∷ []

-- the port's channels once PRESETn has acted
abbrev pub channels_at : Values → AxiKept → Channels
channels_at p m = held (channel_pins p) m.channels

-- what the edge finds
abbrev pub found : Block → Values → AxiKept → Now
found b p m = record { access = access b (channel_pins p) (channels_at p m); pins = p; kept = machine.held b p m.fields }

abbrev pub shown : Block → Values → AxiKept → ItemValues → List ℕ
shown b p m v = channels_shown (channel_pins p) (channels_at p m) ++ outputs b v

abbrev pub after : Block → Values → AxiKept → ItemValues → AxiKept
after b p m v = record {
  fields = only_kept b (next b (found b p m) v);
  channels = next_channels b (channel_pins p) (channels_at p m) (read_data b v (found b p m).access);
}

-- Nothing is asked of the pins: the port answers whatever stands there.
abbrev pub axi : Block → Front
axi b = record {
  Kept = AxiKept;
  block = b;
  name = axi_name b;
  ports = axi_ports b;
  registers = field_registers b ++ channel_registers;
  found = found b;
  shown = shown b;
  next = after b;
  Keeps = λ ps. Unit {0};
}
