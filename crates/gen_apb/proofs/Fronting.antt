-- The port but for its data.
use Rattle.std.proofs.Common.{◌≡◌, ◌==◌, true, false, not, ◌&&◌, if◌then◌else◌, Some, None, ap, sym, ◌∙◌, subst}
use Rattle.std.specs.Prelude.{Result, Ok, Err, OnOk}
use Rattle.plain_lemmas.proofs.Bools.{and_true-is as and_true}
use Rattle.rtl_net.specs.Value.{bit_of}
use Rattle.rtl_net.specs.Net.{Net, Extends, Grows, IsNode}
use Rattle.rtl_net.specs.declared.node.Id.{Id}
use Rattle.rtl_net.proofs.Nets.{Extends-grows, Extends-trans, Stands-extends}
use Rattle.rb_model.specs.declared.block.Block.{Block}
use Rattle.rb_model.specs.Kept.{Waited, Error, has_wait}
use Rattle.rb_model.specs.Protocol.{bus_of}
use Rattle.rb_model.specs.Run.{carries, closes, is_access, is_unmapped}
use Rattle.gen_apb.specs.declared.access.Request.{Request}
use Rattle.gen_apb.specs.declared.front.Front.{Front}
use Rattle.gen_apb.specs.Accesses.{IsCarried, SaysAccess}
use Rattle.gen_apb.specs.Bus.{IsOfBus}
use Rattle.gen_apb.specs.Fronts.{IsClosing, IsFront, KeepsAccess}
use Rattle.gen_apb.proofs.OfBus.{of_bus-extends, of_bus-grows, of_bus_as, of_node}

pub on_ok : {X E : Type 0} (r : Result X E) (P : Type 0) → P → OnOk r P
on_ok (Ok x) P h = h
on_ok (Err e) P h = tt

-- without a wait state each vector of an access carries it
pub always_carries : (b : Block) (net : Net) (id : Id) → has_wait b ≡ false → IsOfBus b net id 1 (λ p m. bit_of (is_access p)) → IsOfBus b net id 1 (λ p m. bit_of (carries b p m))
always_carries b net id w h = of_bus_as b net id 1 (λ p m. bit_of (is_access p)) (λ p m. bit_of (carries b p m)) h
    (λ p m. ap bit_of (and_true (is_access p)) ∙ ap (λ c. bit_of (is_access p && not (c && m Waited == 1))) (sym w))

says-extends : (b : Block) (old new : Net) (c : Request) → Extends old new → IsCarried b old c → SaysAccess b new c.inlet
says-extends b old new c x h = record {
  inlet = record {
    valid = Stands-extends old new c.inlet.valid 1 x h.says.inlet.valid;
    write = Stands-extends old new c.inlet.write 1 x h.says.inlet.write;
    word = Stands-extends old new c.inlet.word 16 x h.says.inlet.word;
    bits = Stands-extends old new c.inlet.bits 32 x h.says.inlet.bits;
  };
  access = λ v s. h.says.access v (x.settles v s);
}

pub plain_front : (b : Block) (old new : Net) (c : Request) (f : Front) → has_wait b ≡ false → Grows old new → IsCarried b old c → IsNode new f.ready 1 (λ v. 1) → f.inlet ≡ c.inlet → f.error ≡ c.fails → f.closes ≡ None → IsFront b new f
plain_front b old new c f w g h ready inlet error closes_is = record {
  says = subst (SaysAccess b new) (sym inlet) (says-extends b old new c (Extends-grows old new g) h);
  ready = of_node b new f.ready 1 (λ v. 1) (λ p m. if has_wait b then bit_of (closes b p m) else 1) ready (λ v s m t. ap (λ k. if k then bit_of (closes b (bus_of v.ins) m) else 1) (sym w));
  error = subst (λ i. IsOfBus b new i 1 (λ p m. if has_wait b then (if closes b p m then m Error else 0) else bit_of (carries b p m && is_unmapped b p))) (sym error)
      (of_bus_as b new c.fails 1 (λ p m. bit_of (carries b p m && is_unmapped b p)) (λ p m. if has_wait b then (if closes b p m then m Error else 0) else bit_of (carries b p m && is_unmapped b p))
      (of_bus-grows b old new c.fails 1 (λ p m. bit_of (carries b p m && is_unmapped b p)) g h.fails) (λ p m. ap (λ k. if k then (if closes b p m then m Error else 0) else bit_of (carries b p m && is_unmapped b p)) (sym w)));
  closing = subst (IsClosing b new) (sym closes_is) w;
  keeps = λ t. absurd (let q : true ≡ false = sym t ∙ w in cc);
}

pub waiting_front : (b : Block) (n1 n2 n3 n4 : Net) (closes_id : Id) (c : Request) (f : Front) → has_wait b ≡ true → Grows n1 n2 → Grows n2 n3 → Extends n3 n4
    → IsOfBus b n1 closes_id 1 (λ p m. bit_of (closes b p m)) → IsCarried b n2 c → IsOfBus b n3 f.error 1 (λ p m. if closes b p m then m Error else 0) → KeepsAccess b n4
    → f.inlet ≡ c.inlet → f.ready ≡ closes_id → f.closes ≡ Some closes_id → IsFront b n4 f
waiting_front b n1 n2 n3 n4 closes_id c f w g12 g23 x34 closing_is carried_is error keeps inlet ready closes_is =
    let x24 : Extends n2 n4 = Extends-trans n2 n3 n4 (Extends-grows n2 n3 g23) x34 in
    let x14 : Extends n1 n4 = Extends-trans n1 n2 n4 (Extends-grows n1 n2 g12) x24 in
    let closing4 : IsOfBus b n4 closes_id 1 (λ p m. bit_of (closes b p m)) = of_bus-extends b n1 n4 closes_id 1 (λ p m. bit_of (closes b p m)) x14 closing_is in
    record {
      says = subst (SaysAccess b n4) (sym inlet) (says-extends b n2 n4 c x24 carried_is);
      ready = subst (λ i. IsOfBus b n4 i 1 (λ p m. if has_wait b then bit_of (closes b p m) else 1)) (sym ready)
          (of_bus_as b n4 closes_id 1 (λ p m. bit_of (closes b p m)) (λ p m. if has_wait b then bit_of (closes b p m) else 1) closing4 (λ p m. ap (λ k. if k then bit_of (closes b p m) else 1) (sym w)));
      error = of_bus_as b n4 f.error 1 (λ p m. if closes b p m then m Error else 0) (λ p m. if has_wait b then (if closes b p m then m Error else 0) else bit_of (carries b p m && is_unmapped b p))
          (of_bus-extends b n3 n4 f.error 1 (λ p m. if closes b p m then m Error else 0) x34 error) (λ p m. ap (λ k. if k then (if closes b p m then m Error else 0) else bit_of (carries b p m && is_unmapped b p)) (sym w));
      closing = subst (IsClosing b n4) (sym closes_is) (w, closing4);
      keeps = λ t. keeps;
    }
