-- Registers driven one after the other.
use Rattle.std.proofs.Common.{◌≡◌, ◌≢◌, ℕ, ◌+◌, ◌<◌, ◌≤◌, true, if◌then◌else◌, Some, None, List, [], ◌∷◌, ◌++◌, length, map, slice_get, refl, sym, ap, ◌∙◌, arith, inl, inr}
use Rattle.std.proofs.lemmas.Option.{same_Some, slice_get_read}
use Rattle.plain_lemmas.proofs.Lists.{get-behind as behind, get-front_of as front, get-map_at as mapped_at}
use Rattle.plain_lemmas.proofs.Numbers.{below_next-or_same as split}
use Rattle.rb_base.specs.declared.ports.Pin.{Pin}
use Rattle.v_design.specs.WellFormed.{distinct}
use Rattle.rtl_net.specs.Value.{At, under}
use Rattle.rtl_net.specs.Net.{Net, Awaits, CanDrive, Extends, Settles, registers_of, undriven}
use Rattle.rtl_net.specs.Ids.{at}
use Rattle.rtl_net.specs.declared.node.Id.{Id}
use Rattle.rtl_net.specs.declared.node.NetNode.TheVariants.{Register}
use Rattle.rtl_net.specs.declared.node.NetReset.{NetReset}
use Rattle.rtl_net.proofs.Nets.{Extends-refl, Extends-trans, Stands-extends}
use Rattle.rb_model.specs.declared.block.Block.{Block}
use Rattle.rb_model.specs.Kept.{Kept, Waited, Data, Error, has_wait, kept, kept_pins, register_name, register_width, field_kept, kept_pin}
use Rattle.rb_model.specs.Ports.{ports}
use Rattle.rb_model.proofs.Apart.{Apart-from, Apart-place}
use Rattle.block_plan.specs.declared.plan.Plan.{Plan}
use Rattle.gen_scene.specs.declared.base.Base.{Base}
use Rattle.gen_scene.specs.declared.base.Inlet.{Inlet}
use Rattle.gen_scene.specs.Bases.{IsBase, reset_of}
use Rattle.gen_scene.proofs.ResetPins.{under_held}
use Rattle.gen_scene.proofs.Worths.{HasPins-extends}
use Rattle.gen_clock.specs.Edges.{AreNexts, to_take}
use Rattle.gen_clock.proofs.Taking.{kept_by, taken_held}
use Rattle.gen_core.specs.Ties.{AreAwaiting, MovesOn}

-- The names of the registers differ

name_place : (b : Block) (k : Kept) (j : ℕ) → slice_get (field_kept b) j ≡ Some k → slice_get (map (λ p. p.name) (ports b) ++ map (λ p. p.name) (kept_pins b)) (length (map (λ p. p.name) (ports b)) + j) ≡ Some (register_name b k)
name_place b k j here =
    behind (map (λ p. p.name) (ports b)) (map (λ p. p.name) (kept_pins b)) j
    ∙ mapped_at (λ (p : Pin). p.name) (kept_pins b) j (kept_pin b k) (mapped_at (kept_pin b) (kept b) j k (front (field_kept b) (if has_wait b then Waited ∷ Data ∷ Error ∷ [] else []) k j here))

one_place : (b : Block) → distinct (map (λ p. p.name) (ports b) ++ map (λ p. p.name) (kept_pins b)) ≡ true → (i j : ℕ) (k m : Kept) → slice_get (field_kept b) i ≡ Some k → slice_get (field_kept b) j ≡ Some m → register_name b k ≡ register_name b m → i ≡ j
one_place b apart i j k m at_i at_j same =
    let names = map (λ p. p.name) (ports b) ++ map (λ p. p.name) (kept_pins b) in
    let start = length (map (λ p. p.name) (ports b)) in
    let e : start + i ≡ start + j = Apart-place names (start + i) (start + j) (register_name b m) (Apart-from names apart) (name_place b k i at_i ∙ ap Some same) (name_place b m j at_j) in
    omega (arith, e)

-- one register waits under one name
one_name : (net : Net) (a b : Id) (m n : List ℕ) (w u : ℕ) (r s : NetReset) → Awaits net a m w r → Awaits net b n u s → a.0 ≡ b.0 → m ≡ n
one_name net a b m n w u r s p q e = by (same_Some (Register m w r None) (Register n u s None) (sym p.is ∙ ap (slice_get net.nodes) e ∙ q.is))
  where
    by : Register m w r None ≡ Register n u s None → m ≡ n
    by z = cc

-- The first registers are driven, and the others wait

pub record DrivenTo (b : Block) (p : Plan) (pins : List Id) (first net : Net) (kept nexts : List Id) (end : ℕ) : Type 0 where
  pub older : Extends first net
  pub name : net.name ≡ first.name
  pub seats : net.seats ≡ first.seats
  pub registers : registers_of net.nodes ≡ registers_of first.nodes
  pub undriven : undriven net.nodes + end ≡ undriven first.nodes
  pub driven : (j : ℕ) (k : Kept) → j < end → slice_get (field_kept b) j ≡ Some k → (v : At) → Settles net v → v.after (register_name b k) ≡ under v.node (reset_of b p pins k) (v.node (at nexts j).0)
  pub awaits : (j : ℕ) (k : Kept) → end ≤ j → slice_get (field_kept b) j ≡ Some k → Awaits net (at kept j) (register_name b k) (register_width b k) (reset_of b p pins k)

pub driven_none : (b : Block) (p : Plan) (pins : List Id) (net : Net) (kept nexts : List Id) → AreAwaiting b p pins net kept → DrivenTo b p pins net net kept nexts 0
driven_none b p pins net kept nexts h = record {
  older = Extends-refl net;
  name = refl;
  seats = refl;
  registers = refl;
  undriven = omega arith;
  driven = λ j k l. absurd (omega arith);
  awaits = λ j k l e. h.each j k e;
}

pub driven_more : (b : Block) (p : Plan) (pins : List Id) (first net new : Net) (kept nexts : List Id) (end : ℕ) (here : Kept) → distinct (map (λ p. p.name) (ports b) ++ map (λ p. p.name) (kept_pins b)) ≡ true
    → slice_get (field_kept b) end ≡ Some here → DrivenTo b p pins first net kept nexts end
    → Extends net new → new.name ≡ net.name → new.seats ≡ net.seats → registers_of new.nodes ≡ registers_of net.nodes → undriven new.nodes + 1 ≡ undriven net.nodes
    → ((id : Id) (name : List ℕ) (w : ℕ) (reset : NetReset) → id.0 ≢ (at kept end).0 → Awaits net id name w reset → Awaits new id name w reset)
    → ((name : List ℕ) (w : ℕ) (reset : NetReset) → Awaits net (at kept end) name w reset → (v : At) → Settles new v → v.after name ≡ under v.node reset (v.node (at nexts end).0))
    → DrivenTo b p pins first new kept nexts (end + 1)
driven_more b p pins first net new kept nexts end here apart at_end to h name seats registers fewer others drive = record {
  older = Extends-trans first net new to.older h;
  name = name ∙ to.name;
  seats = seats ∙ to.seats;
  registers = registers ∙ to.registers;
  undriven = let u = to.undriven in omega arith;
  driven = λ j k l e v s. elim (split j end l) [
    | inl below ↦ to.driven j k below e v (h.settles v s)
    | inr same ↦
        let k_at : slice_get (field_kept b) end ≡ Some k = ap (slice_get (field_kept b)) (sym same) ∙ e in
        drive (register_name b k) (register_width b k) (reset_of b p pins k) (to.awaits end k (omega arith) k_at) v s
        ∙ ap (λ i. under v.node (reset_of b p pins k) (v.node (at nexts i).0)) (sym same)
  ];
  awaits = λ j k l e.
      let waits = to.awaits j k (omega arith) e in
      let this = to.awaits end here (omega arith) at_end in
      others (at kept j) (register_name b k) (register_width b k) (reset_of b p pins k)
      (λ same. let z : j ≡ end = one_place b apart j end k here e at_end (one_name net (at kept j) (at kept end) _ _ _ _ _ _ waits this same) in absurd (omega arith)) waits;
}

pub can_drive : (b : Block) (a : Inlet) (p : Plan) (pins : List Id) (first net : Net) (kept nexts : List Id) (end : ℕ) (here : Kept) → slice_get (field_kept b) end ≡ Some here → DrivenTo b p pins first net kept nexts end → AreNexts b a first nexts
    → CanDrive net (at kept end) (at nexts end)
can_drive b a p pins first net kept nexts end here e to ns = record {
  name = register_name b here;
  width = register_width b here;
  reset = reset_of b p pins here;
  awaits = to.awaits end here (omega arith) e;
  stands = Stands-extends first net (at nexts end) (register_width b here) to.older (ns.each end here e).stands;
}

pub all_driven : (s : Base) (first net : Net) (nexts : List Id) (end : ℕ) → IsBase first s → AreNexts s.block.now s.inlet first nexts → length nexts ≤ end → DrivenTo s.block.now s.plan.now s.pins.now first net s.kept.now nexts end
    → MovesOn s.block.now s.inlet net
all_driven s first net nexts end base ns all to = record {
  moved = λ v settles n found items valued k c.
      let b = s.block.now in
      let a = s.inlet in
      let (j, low, is) = c in
      let here : slice_get (field_kept b) j ≡ Some k = slice_get_read (field_kept b) (length (field_kept b)) j k refl low (sym is) in
      let pins = HasPins-extends first net to.older b s.pins.now base.pins in
      to.driven j k (let l = ns.long in omega arith) here v settles
      ∙ ap (λ y. under v.node (reset_of b s.plan.now s.pins.now k) y) ((ns.each j k here).value v (to.older.settles v settles) n found items valued)
      ∙ under_held b base.sound s.plan.now base.planned net s.pins.now pins a k c v settles n found items valued (to_take b n items)
      ∙ taken_held b n items k (kept_by b k c);
}
