-- What acts at an edge.
use Rattle.std.proofs.Common.{◌≡◌, ℕ, ◌==◌, Bool, not, ◌&&◌, ◌||◌}
use Rattle.rtl_net.specs.Value.{At, bit_of}
use Rattle.rtl_net.specs.Net.{Net, Grows, IsNode}
use Rattle.rtl_net.specs.declared.node.Id.{Id}
use Rattle.rtl_net.proofs.Nets.{Grows-trans, IsNode-grows}
use Rattle.axi_model.specs.Channels.{can_read, reads, writes}
use Rattle.gen_channels.specs.declared.kept.ChannelNodes.{ChannelNodes}
use Rattle.gen_channels.specs.declared.pins.ChannelPins.{ChannelPins}
use Rattle.gen_channels.specs.Nodes.{HasChannelPins, HasChannels, kept_seen, pins_seen}
use Rattle.gen_channels.proofs.Says.{says_bit, says_both, says_none, says_opposite}

pub writing_is : (n0 n1 n2 n3 n4 : Net) (p : ChannelPins) (k : ChannelNodes) (addressed there free id : Id) → HasChannelPins n0 p → HasChannels n0 k → Grows n0 n1 → Grows n1 n2 → Grows n2 n3 → Grows n3 n4
    → IsNode n1 addressed 1 (λ v. bit_of (v.node p.resetn.0 == 1 && v.node k.aw.0 == 1)) → IsNode n2 there 1 (λ v. bit_of (v.node addressed.0 == 1 && v.node k.w.0 == 1))
    → IsNode n3 free 1 (λ v. bit_of (v.node k.b.0 == 0)) → IsNode n4 id 1 (λ v. bit_of (v.node there.0 == 1 && v.node free.0 == 1)) → IsNode n4 id 1 (λ v. bit_of (writes (pins_seen v) (kept_seen v)))
writing_is n0 n1 n2 n3 n4 p k addressed there free id hp hk g1 g2 g3 g4 a t f h =
    let a1 = says_both n0 n1 p.resetn k.aw addressed (λ v. (pins_seen v).resetn == 1) (λ v. (kept_seen v).aw == 1) g1 a (says_bit n0 p.resetn (λ v. (pins_seen v).resetn) hp.resetn) (says_bit n0 k.aw (λ v. (kept_seen v).aw) hk.aw) in
    let w1 = IsNode-grows n0 n1 k.w 1 (λ v. bit_of ((kept_seen v).w == 1)) g1 (says_bit n0 k.w (λ v. (kept_seen v).w) hk.w) in
    let t2 = says_both n1 n2 addressed k.w there (λ v. (pins_seen v).resetn == 1 && (kept_seen v).aw == 1) (λ v. (kept_seen v).w == 1) g2 t a1 w1 in
    let b2 = IsNode-grows n0 n2 k.b 1 (λ v. (kept_seen v).b) (Grows-trans n0 n1 n2 g1 g2) hk.b in
    let f3 = says_none n2 n3 k.b free (λ v. (kept_seen v).b) g3 f b2 in
    let t3 = IsNode-grows n2 n3 there 1 (λ v. bit_of ((pins_seen v).resetn == 1 && (kept_seen v).aw == 1 && (kept_seen v).w == 1)) g3 t2 in
    says_both n3 n4 there free id (λ v. (pins_seen v).resetn == 1 && (kept_seen v).aw == 1 && (kept_seen v).w == 1) (λ v. (kept_seen v).b == 0) g4 h t3 f3

pub ready_is : (n0 n1 n2 n3 : Net) (k : ChannelNodes) (w empty quiet id : Id) → HasChannels n0 k → IsNode n0 w 1 (λ v. bit_of (writes (pins_seen v) (kept_seen v))) → Grows n0 n1 → Grows n1 n2 → Grows n2 n3
    → IsNode n1 empty 1 (λ v. bit_of (v.node k.r.0 == 0)) → IsNode n2 quiet 1 (λ v. bit_of (v.node w.0 == 0)) → IsNode n3 id 1 (λ v. bit_of (v.node empty.0 == 1 && v.node quiet.0 == 1)) → IsNode n3 id 1 (λ v. bit_of (can_read (pins_seen v) (kept_seen v)))
ready_is n0 n1 n2 n3 k w empty quiet id hk hw g1 g2 g3 e q h =
    let e1 = says_none n0 n1 k.r empty (λ v. (kept_seen v).r) g1 e hk.r in
    let q2 = says_opposite n0 n2 w quiet (λ v. writes (pins_seen v) (kept_seen v)) (Grows-trans n0 n1 n2 g1 g2) q hw in
    says_both n2 n3 empty quiet id (λ v. (kept_seen v).r == 0) (λ v. not (writes (pins_seen v) (kept_seen v))) g3 h (IsNode-grows n1 n2 empty 1 (λ v. bit_of ((kept_seen v).r == 0)) g2 e1) q2

pub reading_is : (n0 n1 n2 : Net) (p : ChannelPins) (ready asked id : Id) → HasChannelPins n0 p → IsNode n0 ready 1 (λ v. bit_of (can_read (pins_seen v) (kept_seen v))) → Grows n0 n1 → Grows n1 n2
    → IsNode n1 asked 1 (λ v. bit_of (v.node p.resetn.0 == 1 && v.node p.arvalid.0 == 1)) → IsNode n2 id 1 (λ v. bit_of (v.node asked.0 == 1 && v.node ready.0 == 1)) → IsNode n2 id 1 (λ v. bit_of (reads (pins_seen v) (kept_seen v)))
reading_is n0 n1 n2 p ready asked id hp hr g1 g2 a h =
    let a1 = says_both n0 n1 p.resetn p.arvalid asked (λ v. (pins_seen v).resetn == 1) (λ v. (pins_seen v).arvalid == 1) g1 a (says_bit n0 p.resetn (λ v. (pins_seen v).resetn) hp.resetn) (says_bit n0 p.arvalid (λ v. (pins_seen v).arvalid) hp.arvalid) in
    says_both n1 n2 asked ready id (λ v. (pins_seen v).resetn == 1 && (pins_seen v).arvalid == 1) (λ v. can_read (pins_seen v) (kept_seen v)) g2 h a1 (IsNode-grows n0 n1 ready 1 (λ v. bit_of (can_read (pins_seen v) (kept_seen v))) g1 hr)
