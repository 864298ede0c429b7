-- A netlist stays well made.
use Rattle.std.specs.List.{slice_get}
use Rattle.std.specs.Str.{bytes_eq}
use Rattle.std.specs.Bool.{OnTrue}
use Rattle.std.specs.List.{AllByRecursion, IsDistinct}
use Rattle.std.proofs.Common.{ℕ, ◌≡◌, ◌<◌, ◌≤◌, Bool, true, false, List, [], ◌∷◌, ◌++◌, length, map, Option, Some, None, inl, inr, refl, ap, sym, ◌∙◌, subst, arith, append-nil}
use Rattle.std.proofs.lemmas.List.{map-append}
use Rattle.rtl_net.specs.Names.{is_identifier, is_net_name, clock}
use Rattle.rtl_net.specs.Value.{expr_width, operands}
use Rattle.rtl_net.specs.Net.{Net, widths, width_in, IsInput, IsWire, Stands, IsWidth, CanWire, CanReset, Extends, registers_of}
use Rattle.rtl_net.specs.Ports.{seat_names, register_names, seated, IsNew, IsFree}
use Rattle.rtl_net.specs.Made.{IsMade, AreNames, IsNodeMade, IsPinBelow, CanNext, IsTakenBy}
use Rattle.rtl_net.specs.Shared.{LacksWire, is_wire}
use Rattle.rtl_net.specs.declared.node.Id.{Id}
use Rattle.rtl_net.specs.declared.node.NetNode.{NetNode}
use Rattle.rtl_net.specs.declared.node.NetNode.TheVariants as nodes
use Rattle.rtl_net.specs.declared.node.NetExpr.{NetExpr}
use Rattle.rtl_net.specs.declared.node.NetExpr.TheVariants as exprs
use Rattle.rtl_net.specs.declared.node.NetReset.{NetReset}
use Rattle.rtl_net.specs.declared.node.NetReset.TheVariants as resets
use Rattle.rtl_net.specs.declared.node.Seat.{Seat}
use Rattle.rtl_net.specs.declared.node.Occupant.{Occupant}
use Rattle.rtl_net.specs.declared.node.Occupant.TheVariants.{Input, Output}
use Rattle.rtl_net.proofs.Places.{slice_get-front, slice_get-end, push_cases, slice_get-within}
use Rattle.rtl_net.proofs.Nets.{Extends-trans, Stands-extends, CanWire-extends, CanReset-extends, expr_width-same}
use Rattle.rtl_net.proofs.Added.{pushed, pushed_extends, registers_of-push}
use Rattle.rtl_net.proofs.Seating.{KeepsTaken, KeepsTaken-push, KeepsTaken-seated, seats_extend, seat_of, seated_has, seated_cases, AreNames-seat, AreNames-register, AreNames-seated}
use Rattle.rtl_net.proofs.PortLists.{seat_names-push}

module _ (a b : Net) (p : Extends a b) where
  next_extends : (w : ℕ) (next : Option Id) → CanNext a w next → CanNext b w next
  next_extends w None h = tt
  next_extends w (Some k) h = Stands-extends a b k w p h

  pub IsNodeMade-extends : (i : ℕ) (n : NetNode) → IsNodeMade a i n → IsNodeMade b i n
  IsNodeMade-extends i (nodes.Input name w) h = h
  IsNodeMade-extends i (nodes.Register name w reset next) h = (
    h.0,
    CanReset-extends a b p w reset h.1,
    h.2,
    next_extends w next h.3,
    (h.4.0, h.4.1, p.inputs h.4.0 clock 1 h.4.2),
  )
  IsNodeMade-extends i (nodes.Wire e) h = (
    CanWire-extends a b p e h.0,
    h.1,
    let q : expr_width (widths b) e ≡ expr_width (widths a) e = expr_width-same a b p.width e h.0 in omega (arith, h.2),
  )

  pub IsTakenBy-extends : (name : List ℕ) (w : ℕ) (t : Option Occupant) → IsTakenBy a name w t → IsTakenBy b name w t
  IsTakenBy-extends name w None h = tt
  IsTakenBy-extends name w (Some (Input id)) h = p.inputs id name w h
  IsTakenBy-extends name w (Some (Output from)) h = Stands-extends a b from w p h

some_eq : {X : Type 0} {x y : X} → Some x ≡ Some y → x ≡ y
some_eq h = cc

-- the operands of an expression that can be wired stand before its node
pub operands_below : (net : Net) (e : NetExpr) → CanWire net e → AllByRecursion (λ a. a.0 < length net.nodes) (operands e)
operands_below net (exprs.Const w x) h = tt
operands_below net (exprs.Part a hi lo) h = (h.0.0, tt)
operands_below net (exprs.Cat a b) h = (h.0.0, (h.1.0, tt))
operands_below net (exprs.Not a) h = (h.0, tt)
operands_below net (exprs.All a) h = (h.0, tt)
operands_below net (exprs.Any a) h = (h.0, tt)
operands_below net (exprs.Odd a) h = (h.0, tt)
operands_below net (exprs.Add a b) h = (h.0.0, (h.1.0, tt))
operands_below net (exprs.Sub a b) h = (h.0.0, (h.1.0, tt))
operands_below net (exprs.And a b) h = (h.0.0, (h.1.0, tt))
operands_below net (exprs.Or a b) h = (h.0.0, (h.1.0, tt))
operands_below net (exprs.Xor a b) h = (h.0.0, (h.1.0, tt))
operands_below net (exprs.Eq a b) h = (h.0.0, (h.1.0, tt))
operands_below net (exprs.Lt a b) h = (h.0.0, (h.1.0, tt))
operands_below net (exprs.Pick c a b) h = (h.0.0, (h.1.0, (h.2.0, tt)))

-- an expression that can be wired has a width of 1 to 128 bits
pub wire_width : (net : Net) (e : NetExpr) → ((id : Id) → width_in net id ≤ 128) → CanWire net e → (0 < expr_width (widths net) e) × (expr_width (widths net) e ≤ 128)
wire_width net (exprs.Const w x) most h = (h.0, h.1)
wire_width net (exprs.Part a hi lo) most h = (omega arith, let m : width_in net a ≤ 128 = most a in omega arith)
wire_width net (exprs.Cat a b) most h = (omega arith, h.2)
wire_width net (exprs.Not a) most h = (h.1, most a)
wire_width net (exprs.All a) most h = (omega arith, omega arith)
wire_width net (exprs.Any a) most h = (omega arith, omega arith)
wire_width net (exprs.Odd a) most h = (omega arith, omega arith)
wire_width net (exprs.Add a b) most h = (h.0.1, most a)
wire_width net (exprs.Sub a b) most h = (h.0.1, most a)
wire_width net (exprs.And a b) most h = (h.0.1, most a)
wire_width net (exprs.Or a b) most h = (h.0.1, most a)
wire_width net (exprs.Xor a b) most h = (h.0.1, most a)
wire_width net (exprs.Eq a b) most h = (omega arith, omega arith)
wire_width net (exprs.Lt a b) most h = (omega arith, omega arith)
wire_width net (exprs.Pick c a b) most h = (h.1.1, most a)

-- a netlist of no nodes
pub made_new : (name : List ℕ) → is_identifier name ≡ true → IsMade (record { name = name; nodes = []; seats = [] })
unfolding IsDistinct
made_new name h = record {
  identifier = h;
  names = record { seat_named = refl; register_named = refl; seats_differ = tt; registers_differ = tt; apart = tt };
  nodes = λ i n k. absurd (let q : None ≡ Some n = k in cc);
  seats = λ i s k. absurd (let q : None ≡ Some s = k in cc);
  seated = λ id name w k. absurd (let q : None ≡ Some (nodes.Input name w) = k.is in cc);
  shared = λ a b e k l. absurd (let q : None ≡ Some (nodes.Wire e) = k.is in cc);
}

-- a seat at the end
pub made_seat : (net : Net) (name : List ℕ) (w : ℕ) → IsMade net → is_net_name name ≡ true → IsWidth w → IsNew net name
    → IsMade (record net { seats = net.seats ++ record { name = name; width = w; taken = None } ∷ [] })
made_seat net name w m named wide new =
    let seat : Seat = record { name = name; width = w; taken = None } in
    let b : Net = record net { seats = net.seats ++ seat ∷ [] } in
    let p : Extends net b = seats_extend net (net.seats ++ seat ∷ []) (KeepsTaken-push net.seats seat) in
    record {
      identifier = m.identifier;
      names = subst (λ xs. AreNames xs (register_names net)) (sym (seat_names-push net.seats seat)) (AreNames-seat (seat_names net.seats) (register_names net) name m.names named new.seats new.registers);
      nodes = λ i n h. IsNodeMade-extends net b p i n (m.nodes i n h);
      seats = λ i s h. elim (push_cases net.seats seat i s h) [
        | inl q ↦ let r = m.seats i s q in (r.0, IsTakenBy-extends net b p s.name s.width s.taken r.1)
        | inr q ↦ subst (λ x. IsWidth x.width × IsTakenBy b x.name x.width x.taken) (sym q.1) (wide, tt)
      ];
      seated = λ id n u h. let r = m.seated id n u (record { is = h.is }) in (r.0, slice_get-front net.seats seat r.0 _ r.1);
      shared = λ x y e g h. m.shared x y e (record { is = g.is }) (record { is = h.is });
    }

-- an output
pub made_output : (net : Net) (name : List ℕ) (w : ℕ) (from : Id) → IsMade net → is_net_name name ≡ true → IsWidth w → IsFree net name w → Stands net from w
    → IsMade (record net { seats = seated net.seats name w (Output from) })
made_output net name w from m named wide free stands =
    let b : Net = record net { seats = seated net.seats name w (Output from) } in
    let k : KeepsTaken net.seats b.seats = KeepsTaken-seated name w (Output from) net.seats free.seats in
    let p : Extends net b = seats_extend net b.seats k in
    record {
      identifier = m.identifier;
      names = AreNames-seated net.seats (register_names net) name w (Output from) m.names named free.registers;
      nodes = λ i n h. IsNodeMade-extends net b p i n (m.nodes i n h);
      seats = λ i s h. elim (seated_cases name w (Output from) net.seats free.seats i s h) [
        | inl q ↦ let r = m.seats i s q in (r.0, IsTakenBy-extends net b p s.name s.width s.taken r.1)
        | inr q ↦ subst (λ x. IsWidth x.width × IsTakenBy b x.name x.width x.taken) (sym q) (wide, Stands-extends net b from w p stands)
      ];
      seated = λ id n u h. let r = m.seated id n u (record { is = h.is }) in (r.0, k.stays r.0 n u (Input id) r.1);
      shared = λ x y e g h. m.shared x y e (record { is = g.is }) (record { is = h.is });
    }

abbrev is_input : NetNode → Bool
is_input (nodes.Input name w) = true
is_input (nodes.Register name w reset next) = false
is_input (nodes.Wire e) = false

-- one node more: an older input or wire is the same node
module _ (net : Net) (n : NetNode) where
  old_input : is_input n ≡ false → (id : Id) (name : List ℕ) (w : ℕ) → slice_get (net.nodes ++ n ∷ []) id.0 ≡ Some (nodes.Input name w) → IsInput net id name w
  old_input leaf id name w h = elim (push_cases net.nodes n id.0 _ h) [
    | inl q ↦ record { is = q }
    | inr q ↦ absurd (let e : true ≡ false = ap is_input q.1 ∙ leaf in cc)
  ]

  old_wire : is_wire n ≡ false → (id : Id) (e : NetExpr) → slice_get (net.nodes ++ n ∷ []) id.0 ≡ Some (nodes.Wire e) → IsWire net id e
  old_wire leaf id e h = elim (push_cases net.nodes n id.0 _ h) [
    | inl q ↦ record { is = q }
    | inr q ↦ absurd (let f : true ≡ false = ap is_wire q.1 ∙ leaf in cc)
  ]

register_names-push : (net : Net) (n : NetNode) → register_names (pushed net n) ≡ register_names net ++ map (λ r. r.name) (registers_of (n ∷ []))
register_names-push net n = ap (map (λ r. r.name)) (registers_of-push net.nodes n) ∙ map-append (λ r. r.name) (registers_of net.nodes) (registers_of (n ∷ []))

-- an input and its seat
pub made_input : (net : Net) (name : List ℕ) (w : ℕ) (id : Id) → id.0 ≡ length net.nodes → IsMade net → is_net_name name ≡ true → IsWidth w → OnTrue (bytes_eq name clock) (w ≡ 1) → IsFree net name w
    → IsMade (record { name = net.name; nodes = net.nodes ++ nodes.Input name w ∷ []; seats = seated net.seats name w (Input id) })
made_input net name w id at m named wide one free =
    let a : Net = pushed net (nodes.Input name w) in
    let b : Net = record { name = net.name; nodes = net.nodes ++ nodes.Input name w ∷ []; seats = seated net.seats name w (Input id) } in
    let k : KeepsTaken net.seats b.seats = KeepsTaken-seated name w (Input id) net.seats free.seats in
    let p : Extends net b = Extends-trans net a b (pushed_extends net (nodes.Input name w) m) (seats_extend a b.seats k) in
    let end : slice_get b.nodes id.0 ≡ Some (nodes.Input name w) = slice_get-end net.nodes (nodes.Input name w) id.0 at in
    let regs : register_names b ≡ register_names net = register_names-push net (nodes.Input name w) ∙ append-nil (register_names net) in
    record {
      identifier = m.identifier;
      names = subst (λ rs. AreNames (seat_names b.seats) rs) (sym regs) (AreNames-seated net.seats (register_names net) name w (Input id) m.names named free.registers);
      nodes = λ i n h. elim (push_cases net.nodes (nodes.Input name w) i n h) [
        | inl q ↦ IsNodeMade-extends net b p i n (m.nodes i n q)
        | inr q ↦ subst (λ x. IsNodeMade b i x) (sym q.1) (wide, one)
      ];
      seats = λ i s h. elim (seated_cases name w (Input id) net.seats free.seats i s h) [
        | inl q ↦ let r = m.seats i s q in (r.0, IsTakenBy-extends net b p s.name s.width s.taken r.1)
        | inr q ↦ subst (λ x. IsWidth x.width × IsTakenBy b x.name x.width x.taken) (sym q) (wide, record { is = end })
      ];
      seated = λ x n u h. elim (push_cases net.nodes (nodes.Input name w) x.0 _ h.is) [
        | inl q ↦ let r = m.seated x n u (record { is = q }) in (r.0, k.stays r.0 n u (Input x) r.1)
        | inr q ↦ let r = seated_has name w (Input id) net.seats free.seats in
            let en : n ≡ name = input_name q.1 in
            let eu : u ≡ w = input_width q.1 in
            let ex : x.0 ≡ id.0 = q.0 ∙ sym at in
            (r.0, r.1 ∙ ap (λ y. Some (seat_of y w (Input id))) (sym en) ∙ ap (λ y. Some (seat_of n y (Input id))) (sym eu) ∙ ap (λ (y : ℕ). Some (seat_of n u (Input (record { 0 = y })))) (sym ex))
      ];
      shared = λ x y e g h. m.shared x y e (old_wire net (nodes.Input name w) refl x e g.is) (old_wire net (nodes.Input name w) refl y e h.is);
    }
  where
    input_name : {n y : List ℕ} {u v : ℕ} → nodes.Input n u ≡ nodes.Input y v → n ≡ y
    input_name h = cc

    input_width : {n y : List ℕ} {u v : ℕ} → nodes.Input n u ≡ nodes.Input y v → u ≡ v
    input_width h = cc

-- a register that is still to be driven
pub made_register : (net : Net) (name : List ℕ) (w : ℕ) (reset : NetReset) (k : Id) → IsMade net → is_net_name name ≡ true → IsWidth w → CanReset net w reset → IsInput net k clock 1 → IsNew net name
    → IsMade (pushed net (nodes.Register name w reset None))
made_register net name w reset k m named wide can clocked new =
    let n : NetNode = nodes.Register name w reset None in
    let b : Net = pushed net n in
    let p : Extends net b = pushed_extends net n m in
    record {
      identifier = m.identifier;
      names = subst (λ rs. AreNames (seat_names net.seats) rs) (sym (register_names-push net n)) (AreNames-register (seat_names net.seats) (register_names net) name m.names named new.seats new.registers);
      nodes = λ i x h. elim (push_cases net.nodes n i x h) [
        | inl q ↦ IsNodeMade-extends net b p i x (m.nodes i x q)
        | inr q ↦ subst (λ y. IsNodeMade b i y) (sym q.1) (
          wide,
          CanReset-extends net b p w reset can,
          subst (λ j. IsPinBelow j reset) (sym q.0) (pin_below reset can),
          tt,
          (k, let l : k.0 < length net.nodes = slice_get-within net.nodes k.0 _ clocked.is in omega (arith, q.0), p.inputs k clock 1 clocked),
        )
      ];
      seats = λ i s h. let r = m.seats i s h in (r.0, IsTakenBy-extends net b p s.name s.width s.taken r.1);
      seated = λ x u v h. m.seated x u v (old_input net n refl x u v h.is);
      shared = λ x y e g h. m.shared x y e (old_wire net n refl x e g.is) (old_wire net n refl y e h.is);
    }
  where
    pin_below : (r : NetReset) → CanReset net w r → IsPinBelow (length net.nodes) r
    pin_below resets.None h = tt
    pin_below (resets.Async pin low value) h = slice_get-within net.nodes pin.0 _ h.1.is

-- a wire of a new expression
pub made_wire : (net : Net) (e : NetExpr) → IsMade net → CanWire net e → expr_width (widths net) e ≤ 128 → LacksWire net.nodes e → IsMade (pushed net (nodes.Wire e))
made_wire net e m can most lacks =
    let n : NetNode = nodes.Wire e in
    let b : Net = pushed net n in
    let p : Extends net b = pushed_extends net n m in
    record {
      identifier = m.identifier;
      names = subst (λ rs. AreNames (seat_names net.seats) rs) (sym (register_names-push net n ∙ append-nil (register_names net))) m.names;
      nodes = λ i x h. elim (push_cases net.nodes n i x h) [
        | inl q ↦ IsNodeMade-extends net b p i x (m.nodes i x q)
        | inr q ↦ subst (λ y. IsNodeMade b i y) (sym q.1) (
          CanWire-extends net b p e can,
          subst (λ j. AllByRecursion (λ a. a.0 < j) (operands e)) (sym q.0) (operands_below net e can),
          let w : expr_width (widths b) e ≡ expr_width (widths net) e = expr_width-same net b p.width e can in omega arith,
        )
      ];
      seats = λ i s h. let r = m.seats i s h in (r.0, IsTakenBy-extends net b p s.name s.width s.taken r.1);
      seated = λ x u v h. m.seated x u v (old_input net n refl x u v h.is);
      shared = λ x y f g h. elim (push_cases net.nodes n x.0 _ g.is) [
        | inl q ↦ elim (push_cases net.nodes n y.0 _ h.is) [
          | inl r ↦ m.shared x y f (record { is = q }) (record { is = r })
          | inr r ↦ absurd (lacks x.0 (q ∙ ap Some r.1))
        ]
        | inr q ↦ elim (push_cases net.nodes n y.0 _ h.is) [
          | inl r ↦ absurd (lacks y.0 (r ∙ ap Some q.1))
          | inr r ↦ ap (λ (j : ℕ). record { 0 = j }) (q.0 ∙ sym r.0)
        ]
      ];
    }
