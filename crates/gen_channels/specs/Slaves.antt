-- The nodes of an AXI4-Lite slave port: the access of an edge, what its registers take, and what its outputs show.
use Rattle.std.specs.Prelude.{◌≡◌, ℕ, ◌/◌, ◌*◌, ◌==◌, Bool, ◌&&◌, ◌||◌, if◌then◌else◌, is_some}
use Rattle.rtl_net.specs.Value.{At, bit_of}
use Rattle.rtl_net.specs.Net.{Net, Settles, IsNode}
use Rattle.rtl_net.specs.declared.node.Id.{Id}
use Rattle.rb_model.specs.declared.block.Block.{Block}
use Rattle.rb_model.specs.Run.{word_at}
use Rattle.axi_model.specs.Channels.{Channels, access, can_read, moved, reads, writes}
use Rattle.gen_scene.specs.Bases.{HasInlet}
use Rattle.gen_scene.specs.Worth.{access_at}
use Rattle.gen_channels.specs.Nodes.{HasChannelPins, HasChannels, kept_seen, pins_seen}
use Rattle.gen_scene.specs.declared.base.Inlet.{Inlet}
use Rattle.gen_channels.specs.declared.access.Request.{Request}
use Rattle.gen_channels.specs.declared.acts.Acts.{Acts}
use Rattle.gen_channels.specs.declared.kept.ChannelNodes.{ChannelNodes}
use Rattle.gen_channels.specs.declared.slave.Readies.{Readies}
use Rattle.gen_channels.specs.declared.slave.Slave.{Slave}

-- what acts at an edge
pub record SayActs (net : Net) (a : Acts) : Type 0 where
  pub writing : IsNode net a.writes 1 (λ v. bit_of (writes (pins_seen v) (kept_seen v)))
  pub reading : IsNode net a.reads 1 (λ v. bit_of (reads (pins_seen v) (kept_seen v)))
  pub readying : IsNode net a.ready 1 (λ v. bit_of (can_read (pins_seen v) (kept_seen v)))

-- the address of the access: of a write where one acts, and else of a read, whose two low bits don't count
abbrev pub address_seen : At → ℕ
address_seen v = (if writes (pins_seen v) (kept_seen v) then (kept_seen v).awaddr else (pins_seen v).araddr) / 4 * 4

-- something is written or read, and its word is there
abbrev pub has_access : Block → At → Bool
has_access b v = ((writes (pins_seen v) (kept_seen v) && (kept_seen v).wstrb == 15) || reads (pins_seen v) (kept_seen v)) && is_some (word_at b.reads (address_seen v))

-- the nodes say the access of the edge
pub record SaysAccess (b : Block) (net : Net) (a : Inlet) : Type 0 where
  pub inlet : HasInlet net a
  pub access : (v : At) → Settles net v → access_at a v ≡ access b (pins_seen v) (kept_seen v)

-- and whether its word is there, and all bytes would be written
pub record IsRequest (b : Block) (net : Net) (r : Request) : Type 0 where
  pub says : SaysAccess b net r.inlet
  pub hit : IsNode net r.hit 1 (λ v. bit_of (is_some (word_at b.reads (address_seen v))))
  pub whole : IsNode net r.whole 1 (λ v. bit_of ((kept_seen v).wstrb == 15))

-- the nodes of a port up to its access
pub record IsSlave (b : Block) (net : Net) (s : Slave) : Type 0 where
  pub pins : HasChannelPins net s.pins
  pub kept : HasChannels net s.kept
  pub acts : SayActs net s.acts
  pub request : IsRequest b net s.request

-- what is kept after an edge without reset, but for the read data, for which alone the answer counts
abbrev pub moved_seen : Block → At → Channels
moved_seen b v = moved b (pins_seen v) (kept_seen v) 0

-- the nodes that the registers take but for the read data
pub record AreNexts (block : Block) (net : Net) (n : ChannelNodes) : Type 0 where
  pub aw : IsNode net n.aw 1 (λ v. (moved_seen block v).aw)
  pub awaddr : IsNode net n.awaddr 32 (λ v. (moved_seen block v).awaddr)
  pub w : IsNode net n.w 1 (λ v. (moved_seen block v).w)
  pub wdata : IsNode net n.wdata 32 (λ v. (moved_seen block v).wdata)
  pub wstrb : IsNode net n.wstrb 4 (λ v. (moved_seen block v).wstrb)
  pub b : IsNode net n.b 1 (λ v. (moved_seen block v).b)
  pub bresp : IsNode net n.bresp 2 (λ v. (moved_seen block v).bresp)
  pub r : IsNode net n.r 1 (λ v. (moved_seen block v).r)
  pub rresp : IsNode net n.rresp 2 (λ v. (moved_seen block v).rresp)

-- the nodes that say which addresses and which data are taken where they are valid
pub record AreReadies (net : Net) (r : Readies) : Type 0 where
  pub awready : IsNode net r.awready 1 (λ v. bit_of ((kept_seen v).aw == 0))
  pub wready : IsNode net r.wready 1 (λ v. bit_of ((kept_seen v).w == 0))
