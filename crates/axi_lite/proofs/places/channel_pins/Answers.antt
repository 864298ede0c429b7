use Rattle.std.proofs.Common.{codes, refl}
use Rattle.rb_model.specs.Ports.{pin}
use Rattle.axi_lite.proofs.Placing.{is_resetn}
use Rattle.axi_lite.proofs.places.channel_pins.Goals as goal

pub returns-clause-pins : goal.returns-clause-pins
returns-clause-pins c = λ net h. record {
  resetn = (h.each 0 (pin (codes "PRESETn") 1) refl).node;
  awaddr = (h.each 1 (pin (codes "AWADDR") 32) refl).node;
  awvalid = (h.each 3 (pin (codes "AWVALID") 1) refl).node;
  wdata = (h.each 4 (pin (codes "WDATA") 32) refl).node;
  wstrb = (h.each 5 (pin (codes "WSTRB") 4) refl).node;
  wvalid = (h.each 6 (pin (codes "WVALID") 1) refl).node;
  bready = (h.each 7 (pin (codes "BREADY") 1) refl).node;
  araddr = (h.each 8 (pin (codes "ARADDR") 32) refl).node;
  arvalid = (h.each 10 (pin (codes "ARVALID") 1) refl).node;
  rready = (h.each 11 (pin (codes "RREADY") 1) refl).node;
}

pub returns-clause-resetn : goal.returns-clause-resetn
returns-clause-resetn c = λ net h. is_resetn c.args.block.now net c.args.ids.now h
