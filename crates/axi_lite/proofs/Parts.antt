-- The parts of a netlist fit together.
use Rattle.std.proofs.Common.{◌≡◌, List, [], ◌∷◌, ◌++◌, codes, map, IsTrue, refl, sym, ap, ◌∙◌, subst}
use Rattle.std.specs.Prelude.{Contains}
use Rattle.plain_lemmas.proofs.Lists.{map-append, map-map}
use Rattle.rb_base.specs.declared.ports.Pin.{Pin}
use Rattle.rtl_net.specs.Names.{Lacks, is_net_name}
use Rattle.rtl_net.specs.Net.{Net, Extends, registers_of, undriven}
use Rattle.rtl_net.specs.Ports.{IsFree, IsNew, has_room, register_names, seat_names}
use Rattle.rtl_net.specs.declared.node.Id.{Id}
use Rattle.rtl_net.proofs.Nets.{Extends-trans}
use Rattle.rb_model.specs.declared.block.Block.{Block}
use Rattle.rb_model.specs.Kept.{Kept, field_kept, kept_pin, register_name}
use Rattle.rb_model.specs.Ports.{Outlet, outlets}
use Rattle.rb_model.specs.Sound.{IsSound}
use Rattle.axi_model.specs.Ports.{axi_ports}
use Rattle.gen_core.specs.Core.{IsCore}
use Rattle.gen_core.specs.Ties.{SeatsTaken, outlet_pin}
use Rattle.gen_ports.specs.Laid.{AreSeatsOf}
use Rattle.gen_ports.specs.Shows.{CanShow}
use Rattle.gen_channels.specs.declared.slave.Slave.{Slave}
use Rattle.gen_channels.specs.Slaves.{IsSlave}
use Rattle.gen_channels.proofs.Growing.{says-extends}
use Rattle.gen_front.proofs.Filling.{room_stays, taken-append}
use Rattle.gen_front.proofs.Ports.{HasPorts, core-extends, outlet_at, taken_lacks}
use Rattle.axi_lite.specs.Built.{IsAxiBuilt, KeepsData, KeepsRest, ShowsChannels}
use Rattle.axi_lite.specs.Tables.{data_register, own_outputs, own_registers}
use Rattle.axi_lite.proofs.Names.{data_differs, data_lacks, data_others, field_lack, field_others, outlet_lacks, outlets_free, output_free, output_lacks, outputs_differ, outputs_named}
use Rattle.axi_lite.proofs.Tying.{have_names}
use Rattle.rb_model.proofs.Apart.{Apart-from}
use Rattle.rb_model.proofs.Eachs.{Each-at}
use Rattle.rb_model.proofs.FieldNames.{pin_names}

-- the names of registers
names_kept : (b : Block) (ks : List Kept) → map (λ (r : Pin). r.name) (map (kept_pin b) ks) ≡ map (register_name b) ks
names_kept b ks = map-map (λ (r : Pin). r.name) (kept_pin b) ks

module _ (b : Block) (sound : IsSound b) where
  -- behind the port's registers
  module _ (n1 n2 : Net) (ids : List Id) (laid : HasPorts n1 ids (axi_ports b)) (seats : n2.seats ≡ n1.seats) (registers : registers_of n2.nodes ≡ own_registers) where
    pub field_new : (q : Kept) → Contains (field_kept b) q → IsNew n2 (register_name b q)
    field_new q c = record {
      seats = subst (λ ss. Lacks (seat_names ss) (register_name b q)) (sym seats) (laid.others (register_name b q) (field_lack b sound q c)).seats;
      registers = subst (λ rs. Lacks (map (λ r. r.name) rs) (register_name b q)) (sym registers) (field_others b sound q c);
    }

    pub outlet_free : (o : Outlet) → Contains (outlets b) o → IsFree n2 o.name o.width
    outlet_free o c =
        let before = outlet_at b (λ p. IsFree n1 p.name p.width) o (outlets_free b sound n1 laid.outputs) c in
        let lacks = outlet_at b (λ p. Lacks (pin_names own_registers) p.name) o (outlet_lacks b sound) c in
        record { seats = ap (λ ss. has_room ss o.name o.width) seats ∙ before.seats; registers = subst (λ rs. Lacks (map (λ r. r.name) rs) o.name) (sym registers) lacks }

    -- and behind the core
    module _ (n3 : Net) (taken : SeatsTaken n2.seats n3.seats (map outlet_pin (outlets b))) (added : registers_of n3.nodes ≡ registers_of n2.nodes ++ map (kept_pin b) (field_kept b)) where
      pub data_new : IsNew n3 (codes "axi$rdata")
      data_new =
          let before = subst (λ ss. Lacks (seat_names ss) (codes "axi$rdata")) (sym seats) (laid.others (codes "axi$rdata") (data_lacks b sound)).seats in
          let named : register_names n3 ≡ pin_names own_registers ++ map (register_name b) (field_kept b) =
          ap (map (λ (r : Pin). r.name)) (added ∙ ap (λ rs. rs ++ map (kept_pin b) (field_kept b)) registers) ∙ map-append (λ (r : Pin). r.name) own_registers (map (kept_pin b) (field_kept b)) ∙ ap (λ ns. pin_names own_registers ++ ns) (names_kept b (field_kept b)) in
          record {
            seats = taken_lacks (codes "axi$rdata") n2.seats n3.seats (map outlet_pin (outlets b)) (data_differs b sound) taken before;
            registers = subst (λ ns. Lacks ns (codes "axi$rdata")) (sym named) (data_others b sound);
          }

      pub can_show : (n4 : Net) → n4.seats ≡ n3.seats → registers_of n4.nodes ≡ registers_of n3.nodes ++ data_register ∷ [] → CanShow n4 own_outputs
      can_show n4 same more = record {
        each = λ k p e. (
          Each-at (λ (q : Pin). IsTrue (is_net_name q.name)) own_outputs k p outputs_named e,
          record {
            seats =
                ap (λ ss. has_room ss p.name p.width) same
                ∙ room_stays p.name p.width n2.seats n3.seats (map outlet_pin (outlets b)) (outputs_differ b sound k p e) taken (ap (λ ss. has_room ss p.name p.width) seats ∙ (output_free b sound n1 laid.outputs k p e).seats);
            registers =
                let fields = map (kept_pin b) (field_kept b) in
                let all : registers_of n4.nodes ≡ own_registers ++ fields ++ data_register ∷ [] = more ∙ ap (λ rs. rs ++ data_register ∷ []) (added ∙ ap (λ rs. rs ++ fields) registers) in
                let named : register_names n4 ≡ pin_names own_registers ++ map (register_name b) (field_kept b) ++ codes "axi$rdata" ∷ [] =
                ap (map (λ (r : Pin). r.name)) all ∙ map-append (λ (r : Pin). r.name) (own_registers ++ fields) (data_register ∷ [])
                ∙ ap (λ ns. ns ++ codes "axi$rdata" ∷ []) (map-append (λ (r : Pin). r.name) own_registers fields ∙ ap (λ ns. pin_names own_registers ++ ns) (names_kept b (field_kept b))) in
                subst (λ ns. Lacks ns p.name) (sym named) (output_lacks b sound k p e);
          },
        );
        apart = have_names own_outputs (Apart-from (pin_names own_outputs) refl);
      }

-- All of it: n1 with the ports, n2 with the port, n3 with the core, n4 with the register of the read data, n5 with the outputs shown
pub built : (b : Block) (n1 n2 n3 n4 n5 : Net) (s : Slave) (answer : Id) → AreSeatsOf n1.seats (axi_ports b) → undriven n1.nodes ≡ 0
    → n2.seats ≡ n1.seats → registers_of n2.nodes ≡ own_registers → undriven n2.nodes ≡ undriven n1.nodes → IsSlave b n2 s → KeepsRest b n2
    → Extends n2 n3 → SeatsTaken n2.seats n3.seats (map outlet_pin (outlets b)) → registers_of n3.nodes ≡ registers_of n2.nodes ++ map (kept_pin b) (field_kept b) → undriven n3.nodes ≡ undriven n2.nodes → IsCore b s.request.inlet n3 answer
    → Extends n3 n4 → n4.seats ≡ n3.seats → registers_of n4.nodes ≡ registers_of n3.nodes ++ data_register ∷ [] → undriven n4.nodes ≡ undriven n3.nodes → KeepsData b n4 answer
    → Extends n4 n5 → SeatsTaken n4.seats n5.seats own_outputs → registers_of n5.nodes ≡ registers_of n4.nodes → undriven n5.nodes ≡ undriven n4.nodes → ShowsChannels n5 → IsAxiBuilt b n5
built b n1 n2 n3 n4 n5 s answer laid u1 s2 r2 u2 slave rest x23 s3 r3 u3 core x34 s4 r4 u4 read x45 s5 r5 u5 shows =
    let x35 = Extends-trans n3 n4 n5 x34 x45 in
    let x25 = Extends-trans n2 n3 n5 x23 x35 in
    record {
      inlet = s.request.inlet;
      answer = answer;
      core = core-extends b s.request.inlet n3 n5 answer x35 core;
      says = says-extends n2 n5 x25 b s.request.inlet slave.request.says;
      shows = shows;
      rest = record { kept = λ v t. rest.kept v (x25.settles v t) };
      read = record { kept = λ v t. read.kept v (x45.settles v t) };
      registers = r5 ∙ r4 ∙ ap (λ rs. rs ++ data_register ∷ []) (r3 ∙ ap (λ rs. rs ++ map (kept_pin b) (field_kept b)) r2);
      driven = u5 ∙ u4 ∙ u3 ∙ u2 ∙ u1;
      laid = n1.seats;
      are_laid = laid;
      seats = taken-append n1.seats n3.seats n5.seats (map outlet_pin (outlets b)) own_outputs (subst (λ ss. SeatsTaken ss n3.seats (map outlet_pin (outlets b))) s2 s3) (subst (λ ss. SeatsTaken ss n5.seats own_outputs) s4 s5);
    }
