-- Registers driven one after the other.
use Rattle.std.proofs.Common.{◌≡◌, ◌≢◌, ℕ, ◌+◌, ◌<◌, ◌≤◌, ◌==◌, if◌then◌else◌, Some, None, List, length, slice_get, refl, sym, ap, ◌∙◌, arith, inl, inr}
use Rattle.std.proofs.lemmas.Option.{same_Some, slice_get_within}
use Rattle.plain_lemmas.proofs.Numbers.{below_next-or_same as split}
use Rattle.rb_base.specs.declared.ports.Pin.{Pin}
use Rattle.rtl_net.specs.Value.{At, under}
use Rattle.rtl_net.specs.Net.{Net, Awaits, CanDrive, Extends, Settles, registers_of, undriven}
use Rattle.rtl_net.specs.Ids.{at}
use Rattle.rtl_net.specs.declared.node.Id.{Id}
use Rattle.rtl_net.specs.declared.node.NetNode.TheVariants.{Register}
use Rattle.rtl_net.specs.declared.node.NetReset.{NetReset}
use Rattle.rtl_net.proofs.Nets.{Extends-refl, Extends-trans, Stands-extends}
use Rattle.gen_ports.specs.Registers.{AreCleared, HaveNames, HaveWidths, IsResetn, TakeNexts, by_resetn}

-- one register waits under one name
one_name : (net : Net) (a b : Id) (m n : List ℕ) (w u : ℕ) (r s : NetReset) → Awaits net a m w r → Awaits net b n u s → a.0 ≡ b.0 → m ≡ n
one_name net a b m n w u r s p q e = by (same_Some (Register m w r None) (Register n u s None) (sym p.is ∙ ap (slice_get net.nodes) e ∙ q.is))
  where
    by : Register m w r None ≡ Register n u s None → m ≡ n
    by z = cc

-- The first registers are driven, and the others wait
pub record DrivenTo (resetn : Id) (pins : List Pin) (first net : Net) (ids nexts : List Id) (end : ℕ) : Type 0 where
  pub older : Extends first net
  pub name : net.name ≡ first.name
  pub seats : net.seats ≡ first.seats
  pub registers : registers_of net.nodes ≡ registers_of first.nodes
  pub undriven : undriven net.nodes + end ≡ undriven first.nodes
  pub driven : (j : ℕ) (r : Pin) → j < end → slice_get pins j ≡ Some r → (v : At) → Settles net v → v.after r.name ≡ under v.node (by_resetn resetn) (v.node (at nexts j).0)
  pub awaits : (j : ℕ) (r : Pin) → end ≤ j → slice_get pins j ≡ Some r → Awaits net (at ids j) r.name r.width (by_resetn resetn)

pub driven_none : (resetn : Id) (pins : List Pin) (net : Net) (ids nexts : List Id) → AreCleared net resetn pins ids → DrivenTo resetn pins net net ids nexts 0
driven_none resetn pins net ids nexts h = record {
  older = Extends-refl net;
  name = refl;
  seats = refl;
  registers = refl;
  undriven = omega arith;
  driven = λ j k l. absurd (omega arith);
  awaits = λ j k l e. h.awaits j k e;
}

pub driven_more : (resetn : Id) (pins : List Pin) (first net new : Net) (ids nexts : List Id) (end : ℕ) (here : Pin) → HaveNames pins → slice_get pins end ≡ Some here → DrivenTo resetn pins first net ids nexts end
    → Extends net new → new.name ≡ net.name → new.seats ≡ net.seats → registers_of new.nodes ≡ registers_of net.nodes → undriven new.nodes + 1 ≡ undriven net.nodes
    → ((id : Id) (name : List ℕ) (w : ℕ) (reset : NetReset) → id.0 ≢ (at ids end).0 → Awaits net id name w reset → Awaits new id name w reset)
    → ((name : List ℕ) (w : ℕ) (reset : NetReset) → Awaits net (at ids end) name w reset → (v : At) → Settles new v → v.after name ≡ under v.node reset (v.node (at nexts end).0))
    → DrivenTo resetn pins first new ids nexts (end + 1)
driven_more resetn pins first net new ids nexts end here apart at_end to h name seats registers fewer others drive = record {
  older = Extends-trans first net new to.older h;
  name = name ∙ to.name;
  seats = seats ∙ to.seats;
  registers = registers ∙ to.registers;
  undriven = let u = to.undriven in omega arith;
  driven = λ j k l e v s. elim (split j end l) [
    | inl below ↦ to.driven j k below e v (h.settles v s)
    | inr same ↦
        let k_at : slice_get pins end ≡ Some k = ap (slice_get pins) (sym same) ∙ e in
        drive k.name k.width (by_resetn resetn) (to.awaits end k (omega arith) k_at) v s
        ∙ ap (λ i. under v.node (by_resetn resetn) (v.node (at nexts i).0)) (sym same)
  ];
  awaits = λ j k l e.
      let waits = to.awaits j k (omega arith) e in
      let this = to.awaits end here (omega arith) at_end in
      others (at ids j) k.name k.width (by_resetn resetn)
      (λ same. let z : j ≡ end = apart j end k here e at_end (one_name net (at ids j) (at ids end) _ _ _ _ _ _ waits this same) in absurd (omega arith)) waits;
}

pub can_drive : (resetn : Id) (pins : List Pin) (first net : Net) (ids nexts : List Id) (end : ℕ) (here : Pin) → slice_get pins end ≡ Some here → DrivenTo resetn pins first net ids nexts end → HaveWidths first pins nexts → CanDrive net (at ids end) (at nexts end)
can_drive resetn pins first net ids nexts end here e to ns = record {
  name = here.name;
  width = here.width;
  reset = by_resetn resetn;
  awaits = to.awaits end here (omega arith) e;
  stands = Stands-extends first net (at nexts end) here.width to.older (ns.each end here e);
}

pub all_driven : (resetn : Id) (pins : List Pin) (first net : Net) (ids nexts : List Id) (end : ℕ) → IsResetn first resetn → end ≡ length pins → DrivenTo resetn pins first net ids nexts end → TakeNexts net pins nexts
all_driven resetn pins first net ids nexts end has all to = record {
  each = λ k r here v s.
      let low = slice_get_within pins k r here in
      to.driven k r (omega (arith, low, all)) here v s ∙ ap (λ x. if x == 0 then 0 else v.node (at nexts k).0) (has.node.value v (to.older.settles v s));
}
