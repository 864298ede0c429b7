-- What is known of the nodes of a port is known in netlists that extend it.
use Rattle.std.proofs.Common.{◌≡◌, ℕ, ◌==◌, Bool}
use Rattle.std.specs.Prelude.{is_some}
use Rattle.rtl_net.specs.Value.{At, bit_of}
use Rattle.rtl_net.specs.Net.{Net, Extends, Grows, IsNode}
use Rattle.rtl_net.specs.declared.node.Id.{Id}
use Rattle.rtl_net.proofs.Nets.{Extends-grows, IsNode-extends, Stands-extends}
use Rattle.rb_model.specs.declared.block.Block.{Block}
use Rattle.rb_model.specs.Run.{word_at}
use Rattle.axi_model.specs.Channels.{can_read, reads, writes}
use Rattle.gen_scene.specs.declared.base.Inlet.{Inlet}
use Rattle.gen_channels.specs.declared.access.Request.{Request}
use Rattle.gen_channels.specs.declared.acts.Acts.{Acts}
use Rattle.gen_channels.specs.declared.kept.ChannelNodes.{ChannelNodes}
use Rattle.gen_channels.specs.declared.pins.ChannelPins.{ChannelPins}
use Rattle.gen_channels.specs.declared.slave.Slave.{Slave}
use Rattle.gen_channels.specs.Nodes.{HasChannelPins, HasChannels, kept_seen, pins_seen}
use Rattle.gen_channels.specs.Slaves.{IsRequest, IsSlave, SayActs, SaysAccess, address_seen}

module _ (old new : Net) (x : Extends old new) where
  pub pins-extends : (p : ChannelPins) → HasChannelPins old p → HasChannelPins new p
  pins-extends p h = record {
    resetn = IsNode-extends old new p.resetn 1 (λ v. (pins_seen v).resetn) x h.resetn;
    awaddr = IsNode-extends old new p.awaddr 32 (λ v. (pins_seen v).awaddr) x h.awaddr;
    awvalid = IsNode-extends old new p.awvalid 1 (λ v. (pins_seen v).awvalid) x h.awvalid;
    wdata = IsNode-extends old new p.wdata 32 (λ v. (pins_seen v).wdata) x h.wdata;
    wstrb = IsNode-extends old new p.wstrb 4 (λ v. (pins_seen v).wstrb) x h.wstrb;
    wvalid = IsNode-extends old new p.wvalid 1 (λ v. (pins_seen v).wvalid) x h.wvalid;
    bready = IsNode-extends old new p.bready 1 (λ v. (pins_seen v).bready) x h.bready;
    araddr = IsNode-extends old new p.araddr 32 (λ v. (pins_seen v).araddr) x h.araddr;
    arvalid = IsNode-extends old new p.arvalid 1 (λ v. (pins_seen v).arvalid) x h.arvalid;
    rready = IsNode-extends old new p.rready 1 (λ v. (pins_seen v).rready) x h.rready;
  }

  pub channels-extends : (k : ChannelNodes) → HasChannels old k → HasChannels new k
  channels-extends k h = record {
    aw = IsNode-extends old new k.aw 1 (λ v. (kept_seen v).aw) x h.aw;
    awaddr = IsNode-extends old new k.awaddr 32 (λ v. (kept_seen v).awaddr) x h.awaddr;
    w = IsNode-extends old new k.w 1 (λ v. (kept_seen v).w) x h.w;
    wdata = IsNode-extends old new k.wdata 32 (λ v. (kept_seen v).wdata) x h.wdata;
    wstrb = IsNode-extends old new k.wstrb 4 (λ v. (kept_seen v).wstrb) x h.wstrb;
    b = IsNode-extends old new k.b 1 (λ v. (kept_seen v).b) x h.b;
    bresp = IsNode-extends old new k.bresp 2 (λ v. (kept_seen v).bresp) x h.bresp;
    r = IsNode-extends old new k.r 1 (λ v. (kept_seen v).r) x h.r;
    rresp = IsNode-extends old new k.rresp 2 (λ v. (kept_seen v).rresp) x h.rresp;
  }

  pub acts-extends : (a : Acts) → SayActs old a → SayActs new a
  acts-extends a h = record {
    writing = IsNode-extends old new a.writes 1 (λ v. bit_of (writes (pins_seen v) (kept_seen v))) x h.writing;
    reading = IsNode-extends old new a.reads 1 (λ v. bit_of (reads (pins_seen v) (kept_seen v))) x h.reading;
    readying = IsNode-extends old new a.ready 1 (λ v. bit_of (can_read (pins_seen v) (kept_seen v))) x h.readying;
  }

  module _ (b : Block) where
    pub says-extends : (a : Inlet) → SaysAccess b old a → SaysAccess b new a
    says-extends a h = record {
      inlet = record {
        valid = Stands-extends old new a.valid 1 x h.inlet.valid;
        write = Stands-extends old new a.write 1 x h.inlet.write;
        word = Stands-extends old new a.word 16 x h.inlet.word;
        bits = Stands-extends old new a.bits 32 x h.inlet.bits;
      };
      access = λ v s. h.access v (x.settles v s);
    }

    pub request-extends : (r : Request) → IsRequest b old r → IsRequest b new r
    request-extends r h = record {
      says = says-extends r.inlet h.says;
      hit = IsNode-extends old new r.hit 1 (λ v. bit_of (is_some (word_at b.reads (address_seen v)))) x h.hit;
      whole = IsNode-extends old new r.whole 1 (λ v. bit_of ((kept_seen v).wstrb == 15)) x h.whole;
    }

    pub slave-extends : (s : Slave) → IsSlave b old s → IsSlave b new s
    slave-extends s h = record {
      pins = pins-extends s.pins h.pins;
      kept = channels-extends s.kept h.kept;
      acts = acts-extends s.acts h.acts;
      request = request-extends s.request h.request;
    }

pub slave-grows : (b : Block) (old new : Net) (s : Slave) → Grows old new → IsSlave b old s → IsSlave b new s
slave-grows b old new s g h = slave-extends old new (Extends-grows old new g) b s h

pub channels-grows : (old new : Net) (k : ChannelNodes) → Grows old new → HasChannels old k → HasChannels new k
channels-grows old new k g h = channels-extends old new (Extends-grows old new g) k h

pub pins-grows : (old new : Net) (p : ChannelPins) → Grows old new → HasChannelPins old p → HasChannelPins new p
pins-grows old new p g h = pins-extends old new (Extends-grows old new g) p h
