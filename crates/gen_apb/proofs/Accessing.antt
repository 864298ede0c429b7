-- What an access of the bus is.
use Rattle.std.proofs.Common.{◌≡◌, ℕ, zero, suc, ◌<◌, ◌==◌, Bool, true, false, not, ◌&&◌, if◌then◌else◌, Option, Some, None, codes, refl, ap, sym, ◌∙◌, subst, arith}
use Rattle.std.specs.Prelude.{is_some, is_none, unwrap_or}
use Rattle.std.specs.Option.{option_map_or}
use Rattle.rtl_net.specs.Value.{At, bit_of}
use Rattle.rtl_net.specs.Net.{Net, Settles, Extends, Grows, IsNode, Stands}
use Rattle.rtl_net.specs.declared.node.Id.{Id}
use Rattle.rtl_net.proofs.Nets.{Grows-trans, Stands-grows, fits_at}
use Rattle.rb_model.specs.declared.block.Block.{Block}
use Rattle.rb_model.specs.Items.{NoAccess, Read, Write}
use Rattle.rb_model.specs.Ports.{pin}
use Rattle.rb_model.specs.Protocol.{bus_of}
use Rattle.rb_model.specs.Run.{carries, is_access, is_unmapped, word_at}
use Rattle.rb_model.specs.Sound.{IsSound}
use Rattle.gen_decode.specs.declared.words.Decoded.{Decoded}
use Rattle.gen_ports.specs.Found.{FindsWord}
use Rattle.gen_ports.proofs.Finding.{written_as_read}
use Rattle.gen_apb.specs.declared.access.Request.{Request}
use Rattle.gen_apb.specs.declared.pins.BusPins.{BusPins}
use Rattle.gen_apb.specs.Accesses.{HasAddress, IsCarried}
use Rattle.gen_apb.specs.Bus.{IsOfBus}
use Rattle.gen_apb.specs.Pins.{HasBusPins}
use Rattle.gen_apb.proofs.OfBus.{of_both, of_bus-extends, pin_node-extends, of_bus-grows, of_bus_as, of_node, of_opposite}

-- The address

pub has_address : (b : Block) (old new : Net) (pins : BusPins) (d : Decoded) → HasBusPins old pins → Grows old new → FindsWord b new pins.address d → HasAddress b new d
has_address b old new pins d has grows found =
    let address = λ (v : At) (s : Settles new v). has.address.node.value v (grows.settles v s) in
    record {
      hit = of_node b new d.hit 1 _ (λ p m. bit_of (is_some (word_at b.reads p.address))) found.hit (λ v s m t. ap (λ a. bit_of (is_some (word_at b.reads a))) (address v s));
      word = of_node b new d.word 16 _ (λ p m. unwrap_or (word_at b.reads p.address) 0) found.word (λ v s m t. ap (λ a. unwrap_or (word_at b.reads a) 0) (address v s));
    }

-- Whether there is an access

is_selected : (r s e : ℕ) → r < 2 → (r ≡ 0 → s ≡ 0) → (s == 1 && e == 1) ≡ (r == 1 && s == 1 && e == 1)
is_selected zero s e l h = rw (h refl) refl
is_selected (suc zero) s e l h = refl
is_selected (suc (suc r)) s e l h = absurd (omega arith)

pub is_accessed : (b : Block) (old new : Net) (pins : BusPins) (id : Id) → HasBusPins old pins → Grows old new → IsNode new id 1 (λ v. bit_of (v.node pins.select.0 == 1 && v.node pins.enable.0 == 1)) → IsOfBus b new id 1 (λ p m. bit_of (is_access p))
is_accessed b old new pins id has grows node = of_node b new id 1 _ (λ p m. bit_of (is_access p)) node (λ v s m t.
    let before = grows.settles v s in
    let r : v.ins (codes "PRESETn") < 2 = subst (λ x. x < 2) (has.resetn.node.value v before) (fits_at old v pins.resetn 1 before has.resetn.node.stands) in
    ap (λ x. bit_of (x == 1 && v.node pins.enable.0 == 1)) (has.select.node.value v before) ∙ ap (λ x. bit_of (v.ins (codes "PSEL") == 1 && x == 1)) (has.enable.node.value v before)
    ∙ ap bit_of (is_selected (v.ins (codes "PRESETn")) (v.ins (codes "PSEL")) (v.ins (codes "PENABLE")) r t.quiet))

-- What the access is

says : (c : Bool) (o q : Option ℕ) (w d valid word : ℕ) → valid ≡ bit_of (c && is_some o) → word ≡ unwrap_or o 0 → q ≡ o
    → (if valid == 0 then NoAccess else (if w == 0 then Read word else Write word d)) ≡ (if c then (if w == 0 then option_map_or Read o NoAccess else option_map_or (λ i. Write i d) q NoAccess) else NoAccess)
says false o q w d valid word e f g = rw e refl
says true None q w d valid word e f g = rw (e, g) (none (w == 0))
  where
    none : (z : Bool) → NoAccess ≡ (if z then NoAccess else NoAccess)
    none true = refl
    none false = refl
says true (Some i) q w d valid word e f g = rw (e, f, g) refl

missed_is : (o : Option ℕ) → not (is_some o) ≡ is_none o
missed_is None = refl
missed_is (Some i) = refl

pub is_carried : (b : Block) → IsSound b → (n0 n1 n2 n3 : Net) (pins : BusPins) (c d_missed : Id) (d : Decoded) (made : Request) → HasBusPins n0 pins → IsOfBus b n0 c 1 (λ p m. bit_of (carries b p m)) → HasAddress b n0 d
    → Grows n0 n1 → Grows n1 n2 → Grows n2 n3 → made.inlet.write ≡ pins.write → made.inlet.word ≡ d.word → made.inlet.bits ≡ pins.data_in
    → IsNode n1 made.inlet.valid 1 (λ v. bit_of (v.node c.0 == 1 && v.node d.hit.0 == 1)) → IsNode n2 d_missed 1 (λ v. bit_of (v.node d.hit.0 == 0))
    → IsNode n3 made.fails 1 (λ v. bit_of (v.node c.0 == 1 && v.node d_missed.0 == 1)) → IsCarried b n3 made
is_carried b sound n0 n1 n2 n3 pins c missed d made has carries_is address g1 g2 g3 write_is word_is bits_is valid missed_node fails =
    let g02 : Grows n0 n2 = Grows-trans n0 n1 n2 g1 g2 in
    let g03 : Grows n0 n3 = Grows-trans n0 n2 n3 g02 g3 in
    let g13 : Grows n1 n3 = Grows-trans n1 n2 n3 g2 g3 in
    let valid_is : IsOfBus b n1 made.inlet.valid 1 (λ p m. bit_of (carries b p m && is_some (word_at b.reads p.address))) = of_both b n0 n1 c d.hit made.inlet.valid (carries b) (λ p m. is_some (word_at b.reads p.address)) g1 valid carries_is address.hit in
    let missed_at : IsOfBus b n2 missed 1 (λ p m. bit_of (not (is_some (word_at b.reads p.address)))) = of_opposite b n0 n2 d.hit missed (λ p m. is_some (word_at b.reads p.address)) g02 missed_node address.hit in
    let fails_at : IsOfBus b n3 made.fails 1 (λ p m. bit_of (carries b p m && not (is_some (word_at b.reads p.address)))) = of_both b n2 n3 c missed made.fails (carries b) (λ p m. not (is_some (word_at b.reads p.address))) g3 fails
    (of_bus-grows b n0 n2 c 1 (λ p m. bit_of (carries b p m)) g02 carries_is) missed_at in
    record {
      says = record {
        inlet = record {
          valid = Stands-grows n1 n3 made.inlet.valid 1 g13 valid_is.stands;
          write = subst (λ i. Stands n3 i 1) (sym write_is) (Stands-grows n0 n3 pins.write 1 g03 has.write.node.stands);
          word = subst (λ i. Stands n3 i 16) (sym word_is) (Stands-grows n0 n3 d.word 16 g03 address.word.stands);
          bits = subst (λ i. Stands n3 i 32) (sym bits_is) (Stands-grows n0 n3 pins.data_in 32 g03 has.data_in.node.stands);
        };
        access = λ v s m t.
            let p = bus_of v.ins in
            let s0 = g03.settles v s in
            let write : v.node made.inlet.write.0 ≡ p.write = ap (λ (i : Id). v.node i.0) write_is ∙ has.write.node.value v s0 in
            let bits : v.node made.inlet.bits.0 ≡ p.data_in = ap (λ (i : Id). v.node i.0) bits_is ∙ has.data_in.node.value v s0 in
            let word : v.node made.inlet.word.0 ≡ unwrap_or (word_at b.reads p.address) 0 = ap (λ (i : Id). v.node i.0) word_is ∙ address.word.value v s0 m t in
            ap (λ w. if v.node made.inlet.valid.0 == 0 then NoAccess else (if w == 0 then Read (v.node made.inlet.word.0) else Write (v.node made.inlet.word.0) (v.node made.inlet.bits.0))) write
            ∙ ap (λ x. if v.node made.inlet.valid.0 == 0 then NoAccess else (if p.write == 0 then Read (v.node made.inlet.word.0) else Write (v.node made.inlet.word.0) x)) bits
            ∙ says (carries b p m) (word_at b.reads p.address) (word_at b.writes p.address) p.write p.data_in (v.node made.inlet.valid.0) (v.node made.inlet.word.0) (valid_is.value v (g13.settles v s) m t) word (written_as_read b sound p.address);
      };
      fails = of_bus_as b n3 made.fails 1 (λ p m. bit_of (carries b p m && not (is_some (word_at b.reads p.address)))) (λ p m. bit_of (carries b p m && is_unmapped b p)) fails_at
          (λ p m. ap (λ x. bit_of (carries b p m && x)) (missed_is (word_at b.reads p.address)));
    }

pub has_pins-extends : (old new : Net) (pins : BusPins) → Extends old new → HasBusPins old pins → HasBusPins new pins
has_pins-extends old new pins x h = record {
  resetn = pin_node-extends old new pins.resetn (pin (codes "PRESETn") 1) x h.resetn;
  address = pin_node-extends old new pins.address (pin (codes "PADDR") 32) x h.address;
  select = pin_node-extends old new pins.select (pin (codes "PSEL") 1) x h.select;
  enable = pin_node-extends old new pins.enable (pin (codes "PENABLE") 1) x h.enable;
  write = pin_node-extends old new pins.write (pin (codes "PWRITE") 1) x h.write;
  data_in = pin_node-extends old new pins.data_in (pin (codes "PWDATA") 32) x h.data_in;
}

pub has_address-extends : (b : Block) (old new : Net) (d : Decoded) → Extends old new → HasAddress b old d → HasAddress b new d
has_address-extends b old new d x h = record {
  hit = of_bus-extends b old new d.hit 1 (λ p m. bit_of (is_some (word_at b.reads p.address))) x h.hit;
  word = of_bus-extends b old new d.word 16 (λ p m. unwrap_or (word_at b.reads p.address) 0) x h.word;
}
