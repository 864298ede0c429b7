-- The registers and the outputs of an AXI4-Lite slave port, in order.
use Rattle.std.specs.Prelude.{List, [], ◌∷◌, codes}
use Rattle.rb_base.specs.declared.ports.Pin.{Pin}
use Rattle.rb_model.specs.Ports.{pin}

-- the registers but for that of the read data
abbrev pub own_registers : List Pin
own_registers =
    pin (codes "axi$aw") 1 ∷ pin (codes "axi$awaddr") 32 ∷ pin (codes "axi$w") 1 ∷ pin (codes "axi$wdata") 32 ∷ pin (codes "axi$wstrb") 4
    ∷ pin (codes "axi$b") 1 ∷ pin (codes "axi$bresp") 2 ∷ pin (codes "axi$r") 1 ∷ pin (codes "axi$rresp") 2 ∷ []

abbrev pub data_register : Pin
data_register = pin (codes "axi$rdata") 32

abbrev pub own_outputs : List Pin
own_outputs =
    pin (codes "AWREADY") 1 ∷ pin (codes "WREADY") 1 ∷ pin (codes "BRESP") 2 ∷ pin (codes "BVALID") 1 ∷ pin (codes "ARREADY") 1
    ∷ pin (codes "RDATA") 32 ∷ pin (codes "RRESP") 2 ∷ pin (codes "RVALID") 1 ∷ []
