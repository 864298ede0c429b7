-- The access of an edge.
use Rattle.std.proofs.Common.{◌≡◌, ℕ, zero, suc, ◌+◌, ◌<◌, ◌≤◌, ◌*◌, ◌/◌, ◌==◌, Bool, true, false, not, ◌&&◌, ◌||◌, if◌then◌else◌, Option, Some, None, List, [], ◌∷◌, map, length, refl, ap, sym, ◌∙◌, subst, arith}
use Rattle.std.specs.Prelude.{is_some, nat_lt, position, unwrap_or}
use Rattle.std.specs.List.{list_any, position_or_len}
use Rattle.std.specs.List.Sorted.{IsStrictlyIncreasing}
use Rattle.std.specs.Option.{option_map_or}
use Rattle.std.proofs.lemmas.Bool.Decides.{nat_tests}
use Rattle.std.proofs.lemmas.List.{length-map}
use Rattle.rtl_net.specs.Value.{At, bit_of}
use Rattle.rtl_net.specs.Net.{Net, Settles, Grows, IsNode, Stands}
use Rattle.rtl_net.specs.declared.node.Id.{Id}
use Rattle.rtl_net.proofs.Nets.{Grows-trans, IsNode-grows, Stands-grows}
use Rattle.rb_model.specs.declared.block.Block.{Block}
use Rattle.rb_model.specs.declared.block.Word.{Word}
use Rattle.rb_model.specs.Items.{NoAccess, Read, Write}
use Rattle.rb_model.specs.Run.{word_at}
use Rattle.rb_model.specs.Sound.{IsSound}
use Rattle.axi_model.specs.Channels.{access, can_read, reads, word_of, writes}
use Rattle.gen_decode.specs.declared.words.Decoded.{Decoded}
use Rattle.gen_ports.specs.Found.{FindsWord}
use Rattle.gen_ports.proofs.Finding.{written_as_read}
use Rattle.gen_scene.specs.declared.base.Inlet.{Inlet}
use Rattle.gen_channels.specs.declared.access.Request.{Request}
use Rattle.gen_channels.specs.declared.acts.Acts.{Acts}
use Rattle.gen_channels.specs.declared.kept.ChannelNodes.{ChannelNodes}
use Rattle.gen_channels.specs.declared.pins.ChannelPins.{ChannelPins}
use Rattle.gen_scene.specs.Worth.{access_at}
use Rattle.gen_channels.specs.Nodes.{HasChannelPins, HasChannels, kept_seen, pins_seen}
use Rattle.gen_channels.specs.Slaves.{IsRequest, SayActs, address_seen, has_access}
use Rattle.gen_channels.proofs.Says.{one_is, says_both, says_either}

-- The address of the access

pub address_is : (n0 n1 n2 : Net) (p : ChannelPins) (k : ChannelNodes) (w chosen id : Id) (wide : ℕ) → HasChannelPins n0 p → HasChannels n0 k → IsNode n0 w 1 (λ v. bit_of (writes (pins_seen v) (kept_seen v))) → Grows n0 n1 → Grows n1 n2
    → IsNode n1 chosen wide (λ v. if v.node w.0 == 1 then v.node k.awaddr.0 else v.node p.araddr.0) → IsNode n2 id 32 (λ v. v.node chosen.0 / 4 * 4) → IsNode n2 id 32 address_seen
address_is n0 n1 n2 p k w chosen id wide hp hk hw g1 g2 c h = record {
  stands = h.stands;
  value = λ v s.
      let s1 = g2.settles v s in
      let s0 = g1.settles v s1 in
      let first : (v.node w.0 == 1) ≡ writes (pins_seen v) (kept_seen v) = ap (λ n. n == 1) (hw.value v s0) ∙ one_is (writes (pins_seen v) (kept_seen v)) in
      h.value v s ∙ ap (λ n. n / 4 * 4) (c.value v s1 ∙ ap (λ t. if t then v.node k.awaddr.0 else v.node p.araddr.0) first
      ∙ ap (λ n. if writes (pins_seen v) (kept_seen v) then n else v.node p.araddr.0) (hk.awaddr.value v s0) ∙ ap (λ n. if writes (pins_seen v) (kept_seen v) then (kept_seen v).awaddr else n) (hp.araddr.value v s0));
}

-- Whether there is an access

pub valid_is : (b : Block) (n0 n1 n2 n3 : Net) (w whole r hit stores acts id : Id) → IsNode n0 w 1 (λ v. bit_of (writes (pins_seen v) (kept_seen v))) → IsNode n0 whole 1 (λ v. bit_of ((kept_seen v).wstrb == 15)) → IsNode n0 r 1 (λ v. bit_of (reads (pins_seen v) (kept_seen v)))
    → IsNode n0 hit 1 (λ v. bit_of (is_some (word_at b.reads (address_seen v)))) → Grows n0 n1 → Grows n1 n2 → Grows n2 n3
    → IsNode n1 stores 1 (λ v. bit_of (v.node w.0 == 1 && v.node whole.0 == 1)) → IsNode n2 acts 1 (λ v. bit_of (v.node stores.0 == 1 || v.node r.0 == 1)) → IsNode n3 id 1 (λ v. bit_of (v.node acts.0 == 1 && v.node hit.0 == 1))
    → IsNode n3 id 1 (λ v. bit_of (has_access b v))
valid_is b n0 n1 n2 n3 w whole r hit stores acts id hw hf hr hh g1 g2 g3 s a h =
    let W : At → Bool = λ v. writes (pins_seen v) (kept_seen v) in
    let S : At → Bool = λ v. (kept_seen v).wstrb == 15 in
    let R : At → Bool = λ v. reads (pins_seen v) (kept_seen v) in
    let H : At → Bool = λ v. is_some (word_at b.reads (address_seen v)) in
    let s1 = says_both n0 n1 w whole stores W S g1 s hw hf in
    let a2 = says_either n1 n2 stores r acts (λ v. W v && S v) R g2 a s1 (IsNode-grows n0 n1 r 1 (λ v. bit_of (R v)) g1 hr) in
    says_both n2 n3 acts hit id (λ v. (W v && S v) || R v) H g3 h a2 (IsNode-grows n0 n2 hit 1 (λ v. bit_of (H v)) (Grows-trans n0 n1 n2 g1 g2) hh)

-- What the access is

reads_alone : (t u w : Bool) → w ≡ true → (t && (u && not w)) ≡ false
reads_alone true true w e = rw e refl
reads_alone true false w e = refl
reads_alone false u w e = refl

says : (w s r : Bool) (o q p : Option ℕ) (d valid write word : ℕ) → (w ≡ true → r ≡ false) → valid ≡ bit_of (((w && s) || r) && is_some (if w then o else p)) → write ≡ bit_of w → word ≡ unwrap_or (if w then o else p) 0 → q ≡ o
    → (if valid == 0 then NoAccess else (if write == 0 then Read word else Write word d))
    ≡ (if w then (if s then option_map_or (λ i. Write i d) q NoAccess else NoAccess) else (if r then option_map_or Read p NoAccess else NoAccess))
says true true r None q p d valid write word alone e f g h = let z : valid ≡ 0 = e in rw (z, h) refl
says true true r (Some i) q p d valid write word alone e f g h = let z : valid ≡ 1 = e in rw (z, f, g, h) refl
says true false r o q p d valid write word alone e f g h = let z : valid ≡ 0 = e ∙ ap (λ t. bit_of ((false || t) && is_some o)) (alone refl) in rw z refl
says false s true o q None d valid write word alone e f g h = rw e refl
says false s true o q (Some i) d valid write word alone e f g h = rw (e, f, g) refl
says false s false o q p d valid write word alone e f g h = rw e refl

-- the address by cases
word_by : (b : Block) (w : Bool) (x y : ℕ) → word_at b.reads ((if w then x else y) / 4 * 4) ≡ (if w then word_of b.reads x else word_of b.reads y)
word_by b true x y = refl
word_by b false x y = refl

pub is_request : (b : Block) → IsSound b → (n0 n1 n2 n3 n4 : Net) (k : ChannelNodes) (a : Acts) (address : Id) (d : Decoded) (r : Request) → HasChannels n0 k → SayActs n0 a → Grows n0 n1 → Grows n1 n2 → Grows n2 n3 → Grows n3 n4
    → IsNode n1 address 32 address_seen → FindsWord b n2 address d → IsNode n3 r.whole 1 (λ v. bit_of ((kept_seen v).wstrb == 15)) → IsNode n4 r.inlet.valid 1 (λ v. bit_of (has_access b v))
    → r.inlet.write ≡ a.writes → r.inlet.word ≡ d.word → r.inlet.bits ≡ k.wdata → r.hit ≡ d.hit → IsRequest b n4 r
is_request b sound n0 n1 n2 n3 n4 k a address d r hk ha g1 g2 g3 g4 at_ found whole valid write_is word_is bits_is hit_is_ =
    let g02 = Grows-trans n0 n1 n2 g1 g2 in
    let g04 = Grows-trans n0 n2 n4 g02 (Grows-trans n2 n3 n4 g3 g4) in
    let g24 = Grows-trans n2 n3 n4 g3 g4 in
    let found_at = λ (v : At) (s : Settles n2 v). at_.value v (g2.settles v s) in
    let hit : IsNode n2 d.hit 1 (λ v. bit_of (is_some (word_at b.reads (address_seen v)))) = record { stands = found.hit.stands; value = λ v s. found.hit.value v s ∙ ap (λ n. bit_of (is_some (word_at b.reads n))) (found_at v s) } in
    record {
      says = record {
        inlet = record {
          valid = valid.stands;
          write = subst (λ i. Stands n4 i 1) (sym write_is) (Stands-grows n0 n4 a.writes 1 g04 ha.writing.stands);
          word = subst (λ i. Stands n4 i 16) (sym word_is) (Stands-grows n2 n4 d.word 16 g24 found.word.stands);
          bits = subst (λ i. Stands n4 i 32) (sym bits_is) (Stands-grows n0 n4 k.wdata 32 g04 hk.wdata.stands);
        };
        access = λ v s.
            let s0 = g04.settles v s in
            let s2 = g24.settles v s in
            let p = pins_seen v in
            let c = kept_seen v in
            let w = writes p c in
            let bits : v.node r.inlet.bits.0 ≡ c.wdata = ap (λ (i : Id). v.node i.0) bits_is ∙ hk.wdata.value v s0 in
            let write : v.node r.inlet.write.0 ≡ bit_of w = ap (λ (i : Id). v.node i.0) write_is ∙ ha.writing.value v s0 in
            let word : v.node r.inlet.word.0 ≡ unwrap_or (if w then word_of b.reads c.awaddr else word_of b.reads p.araddr) 0 =
            ap (λ (i : Id). v.node i.0) word_is ∙ found.word.value v s2 ∙ ap (λ n. unwrap_or (word_at b.reads n) 0) (found_at v s2) ∙ ap (λ o. unwrap_or o 0) (word_by b w c.awaddr p.araddr) in
            let there : v.node r.inlet.valid.0 ≡ bit_of (((w && c.wstrb == 15) || reads p c) && is_some (if w then word_of b.reads c.awaddr else word_of b.reads p.araddr)) =
            valid.value v s ∙ ap (λ o. bit_of (((w && c.wstrb == 15) || reads p c) && is_some o)) (word_by b w c.awaddr p.araddr) in
            ap (λ x. if v.node r.inlet.valid.0 == 0 then NoAccess else (if v.node r.inlet.write.0 == 0 then Read (v.node r.inlet.word.0) else Write (v.node r.inlet.word.0) x)) bits
            ∙ says w (c.wstrb == 15) (reads p c) (word_of b.reads c.awaddr) (word_of b.writes c.awaddr) (word_of b.reads p.araddr) c.wdata (v.node r.inlet.valid.0) (v.node r.inlet.write.0) (v.node r.inlet.word.0)
            (λ t. reads_alone (p.resetn == 1 && p.arvalid == 1) (c.r == 0) w t) there write word (written_as_read b sound (c.awaddr / 4 * 4));
      };
      hit = subst (λ i. IsNode n4 i 1 (λ v. bit_of (is_some (word_at b.reads (address_seen v))))) (sym hit_is_) (IsNode-grows n2 n4 d.hit 1 (λ v. bit_of (is_some (word_at b.reads (address_seen v)))) g24 hit);
      whole = IsNode-grows n3 n4 r.whole 1 (λ v. bit_of ((kept_seen v).wstrb == 15)) g4 whole;
    }

pub hit_seen : (b : Block) (n1 n2 : Net) (address : Id) (d : Decoded) → Grows n1 n2 → IsNode n1 address 32 address_seen → FindsWord b n2 address d → IsNode n2 d.hit 1 (λ v. bit_of (is_some (word_at b.reads (address_seen v))))
hit_seen b n1 n2 address d g at_ found = record { stands = found.hit.stands; value = λ v s. found.hit.value v s ∙ ap (λ n. bit_of (is_some (word_at b.reads n))) (at_.value v (g.settles v s)) }
