-- The ports of a block's module behind an AXI4-Lite slave port (IHI 0022, chapters A2 and B1), in order.
use Rattle.std.specs.Prelude.{ℕ, true, false, List, [], ◌∷◌, ◌++◌, codes, map, filter}
use Rattle.rb_base.specs.declared.ports.Dir.TheVariants.{In, Out}
use Rattle.rb_base.specs.declared.ports.Port.{Port}
use Rattle.rb_model.specs.declared.block.Block.{Block}
use Rattle.rb_model.specs.Ports.{block_ports}

abbrev given : List ℕ → ℕ → Port
given name width = record { dir = In; name = name; width = width }

abbrev shown : List ℕ → ℕ → Port
shown name width = record { dir = Out; name = name; width = width }

-- the clock and the reset, and the five channels: write address, write data, write response, read address, read data
abbrev pub channel_ports : List Port
channel_ports =
    given (codes "PCLK") 1 ∷ given (codes "PRESETn") 1
    ∷ given (codes "AWADDR") 32 ∷ given (codes "AWPROT") 3 ∷ given (codes "AWVALID") 1 ∷ shown (codes "AWREADY") 1
    ∷ given (codes "WDATA") 32 ∷ given (codes "WSTRB") 4 ∷ given (codes "WVALID") 1 ∷ shown (codes "WREADY") 1
    ∷ shown (codes "BRESP") 2 ∷ shown (codes "BVALID") 1 ∷ given (codes "BREADY") 1
    ∷ given (codes "ARADDR") 32 ∷ given (codes "ARPROT") 3 ∷ given (codes "ARVALID") 1 ∷ shown (codes "ARREADY") 1
    ∷ shown (codes "RDATA") 32 ∷ shown (codes "RRESP") 2 ∷ shown (codes "RVALID") 1 ∷ given (codes "RREADY") 1 ∷ []

abbrev pub axi_ports : Block → List Port
axi_ports b = channel_ports ++ block_ports b

abbrev pub axi_name : Block → List ℕ
axi_name b = b.name ++ codes "_axi"
