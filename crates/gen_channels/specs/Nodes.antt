-- The pins and the registers of an AXI4-Lite slave port in a netlist.
use Rattle.std.specs.Prelude.{codes}
use Rattle.rtl_net.specs.Value.{At, Values}
use Rattle.rtl_net.specs.Net.{Net, IsNode}
use Rattle.axi_model.specs.Channels.{Channels, Pins, channel_pins, held}
use Rattle.gen_channels.specs.declared.pins.ChannelPins.{ChannelPins}
use Rattle.gen_channels.specs.declared.kept.ChannelNodes.{ChannelNodes}

-- what registers with these contents keep of the channels
abbrev pub contents_of : Values → Channels
contents_of k = record {
  aw = k (codes "axi$aw");
  awaddr = k (codes "axi$awaddr");
  w = k (codes "axi$w");
  wdata = k (codes "axi$wdata");
  wstrb = k (codes "axi$wstrb");
  b = k (codes "axi$b");
  bresp = k (codes "axi$bresp");
  r = k (codes "axi$r");
  rdata = k (codes "axi$rdata");
  rresp = k (codes "axi$rresp");
}

-- the port's pins at an edge of a netlist, and what it keeps there, once PRESETn has acted
abbrev pub pins_seen : At → Pins
pins_seen v = channel_pins v.ins

abbrev pub kept_seen : At → Channels
kept_seen v = held (pins_seen v) (contents_of v.kept)

-- the nodes of the pins
pub record HasChannelPins (net : Net) (p : ChannelPins) : Type 0 where
  pub resetn : IsNode net p.resetn 1 (λ v. (pins_seen v).resetn)
  pub awaddr : IsNode net p.awaddr 32 (λ v. (pins_seen v).awaddr)
  pub awvalid : IsNode net p.awvalid 1 (λ v. (pins_seen v).awvalid)
  pub wdata : IsNode net p.wdata 32 (λ v. (pins_seen v).wdata)
  pub wstrb : IsNode net p.wstrb 4 (λ v. (pins_seen v).wstrb)
  pub wvalid : IsNode net p.wvalid 1 (λ v. (pins_seen v).wvalid)
  pub bready : IsNode net p.bready 1 (λ v. (pins_seen v).bready)
  pub araddr : IsNode net p.araddr 32 (λ v. (pins_seen v).araddr)
  pub arvalid : IsNode net p.arvalid 1 (λ v. (pins_seen v).arvalid)
  pub rready : IsNode net p.rready 1 (λ v. (pins_seen v).rready)

-- the nodes of the registers but for the read data
pub record HasChannels (net : Net) (k : ChannelNodes) : Type 0 where
  pub aw : IsNode net k.aw 1 (λ v. (kept_seen v).aw)
  pub awaddr : IsNode net k.awaddr 32 (λ v. (kept_seen v).awaddr)
  pub w : IsNode net k.w 1 (λ v. (kept_seen v).w)
  pub wdata : IsNode net k.wdata 32 (λ v. (kept_seen v).wdata)
  pub wstrb : IsNode net k.wstrb 4 (λ v. (kept_seen v).wstrb)
  pub b : IsNode net k.b 1 (λ v. (kept_seen v).b)
  pub bresp : IsNode net k.bresp 2 (λ v. (kept_seen v).bresp)
  pub r : IsNode net k.r 1 (λ v. (kept_seen v).r)
  pub rresp : IsNode net k.rresp 2 (λ v. (kept_seen v).rresp)
