use Rattle.std.proofs.Common.{codes, refl}
use Rattle.rtl_net.specs.Ids.{at}
use Rattle.rb_model.specs.Ports.{pin}
use Rattle.axi_lite.proofs.Placing.{kept_node}
use Rattle.axi_lite.proofs.places.channel_nodes.Goals as goal

pub returns : goal.returns
returns c = λ net resetn h.
    let ids = c.args.ids.now in
    record {
      aw = kept_node net (at ids 0) 1 (codes "axi$aw") (λ c. c.aw) refl (λ k. refl) (h.nodes 0 (pin (codes "axi$aw") 1) refl);
      awaddr = kept_node net (at ids 1) 32 (codes "axi$awaddr") (λ c. c.awaddr) refl (λ k. refl) (h.nodes 1 (pin (codes "axi$awaddr") 32) refl);
      w = kept_node net (at ids 2) 1 (codes "axi$w") (λ c. c.w) refl (λ k. refl) (h.nodes 2 (pin (codes "axi$w") 1) refl);
      wdata = kept_node net (at ids 3) 32 (codes "axi$wdata") (λ c. c.wdata) refl (λ k. refl) (h.nodes 3 (pin (codes "axi$wdata") 32) refl);
      wstrb = kept_node net (at ids 4) 4 (codes "axi$wstrb") (λ c. c.wstrb) refl (λ k. refl) (h.nodes 4 (pin (codes "axi$wstrb") 4) refl);
      b = kept_node net (at ids 5) 1 (codes "axi$b") (λ c. c.b) refl (λ k. refl) (h.nodes 5 (pin (codes "axi$b") 1) refl);
      bresp = kept_node net (at ids 6) 2 (codes "axi$bresp") (λ c. c.bresp) refl (λ k. refl) (h.nodes 6 (pin (codes "axi$bresp") 2) refl);
      r = kept_node net (at ids 7) 1 (codes "axi$r") (λ c. c.r) refl (λ k. refl) (h.nodes 7 (pin (codes "axi$r") 1) refl);
      rresp = kept_node net (at ids 8) 2 (codes "axi$rresp") (λ c. c.rresp) refl (λ k. refl) (h.nodes 8 (pin (codes "axi$rresp") 2) refl);
    }
