-- A netlist whose registers are driven has one run for given contents and vectors.
use Rattle.std.specs.List.{slice_get, AllByRecursion}
use Rattle.std.specs.Str.{bytes_eq}
use Rattle.std.proofs.Common.{zero, suc, ℕ, ◌+◌, ◌≡◌, ◌<◌, Bool, true, false, not, ◌==◌, if◌then◌else◌, List, [], ◌∷◌, length, get_or, Option, Some, None, refl, ap, sym, ◌∙◌, subst, arith}
use Rattle.std.proofs.lemmas.List.Sums.{sum_by-append}
use Rattle.rb_base.specs.declared.ports.Pin.{Pin}
use Rattle.rtl_net.specs.Names.{clock}
use Rattle.rtl_net.specs.Value.{At, Values, node_value, node_width, under, operands}
use Rattle.rtl_net.specs.Net.{Net, IsEdge, widths, width_in, Has, IsInput, Stands, CanWire, CanReset, undriven}
use Rattle.rtl_net.specs.Made.{IsMade, IsNodeMade, IsPinBelow}
use Rattle.rtl_net.specs.Run.{by_output, is_data_input, is_output, inputs, outputs, registers, SameAt, NetRun}
use Rattle.rtl_net.specs.declared.node.Id.{Id}
use Rattle.rtl_net.specs.declared.node.NetNode.{NetNode}
use Rattle.rtl_net.specs.declared.node.NetNode.TheVariants.{Input, Register, Wire}
use Rattle.rtl_net.specs.declared.node.NetReset.{NetReset}
use Rattle.rtl_net.specs.declared.node.NetReset.TheVariants as resets
use Rattle.rtl_net.specs.declared.node.NetExpr.{NetExpr}
use Rattle.rtl_net.specs.declared.node.NetExpr.TheVariants as exprs
use Rattle.rtl_net.specs.declared.node.Seat.{Seat}
use Rattle.rtl_net.specs.declared.node.Occupant.{Occupant}
use Rattle.rtl_net.specs.declared.node.Occupant.TheVariants as takes
use Rattle.rtl_net.proofs.Places.{item_at, slice_get-within}
use Rattle.rtl_net.proofs.Widths.{width_at, input_width}
use Rattle.rtl_net.proofs.Values.{expr_value-same}
use Rattle.rtl_net.proofs.Pins.{seat_at_pin, each_seat_pin, register_at_pin, each_register_pin, same_of_values, values_of_same}
use Rattle.plain_lemmas.proofs.Lists.{each-both as each_two}

-- what holds of each number where it holds of all smaller ones
pub each_number : (P : ℕ → Type 0) → ((i : ℕ) → ((j : ℕ) → j < i → P j) → P i) → (k i : ℕ) → i < k → P i
each_number P step zero i h = absurd (omega arith)
each_number P step (suc k) i h = step i (λ j l. each_number P step k j (omega arith))

pub operands_have : (net : Net) (e : NetExpr) → CanWire net e → AllByRecursion (Has net) (operands e)
operands_have net (exprs.Const w x) h = tt
operands_have net (exprs.Part a hi lo) h = (h.0, tt)
operands_have net (exprs.Cat a b) h = (h.0, (h.1, tt))
operands_have net (exprs.Not a) h = (h, tt)
operands_have net (exprs.All a) h = (h, tt)
operands_have net (exprs.Any a) h = (h, tt)
operands_have net (exprs.Odd a) h = (h, tt)
operands_have net (exprs.Add a b) h = (h.0, (h.1, tt))
operands_have net (exprs.Sub a b) h = (h.0, (h.1, tt))
operands_have net (exprs.And a b) h = (h.0, (h.1, tt))
operands_have net (exprs.Or a b) h = (h.0, (h.1, tt))
operands_have net (exprs.Xor a b) h = (h.0, (h.1, tt))
operands_have net (exprs.Eq a b) h = (h.0, (h.1, tt))
operands_have net (exprs.Lt a b) h = (h.0, (h.1, tt))
operands_have net (exprs.Pick c a b) h = (h.0, (h.1, (h.2, tt)))

-- an input that expressions may name is not the clock
pub width_some : (b : Bool) (w : ℕ) → 0 < (if b then 0 else w) → b ≡ false
width_some true w h = absurd (omega arith)
width_some false w h = refl

pub data_input : (id : Id) (name : List ℕ) (w : ℕ) → bytes_eq name clock ≡ false → is_data_input (record { name = name; width = w; taken = Some (takes.Input id) }) ≡ true
data_input id name w h = ap not h

-- what a reset does looks at its pin alone
pub under_same : (f g : ℕ → ℕ) (reset : NetReset) (x y : ℕ) → ((pin : Id) (low : Bool) (value : ℕ) → reset ≡ resets.Async pin low value → f pin.0 ≡ g pin.0) → x ≡ y → under f reset x ≡ under g reset y
under_same f g resets.None x y h e = e
under_same f g (resets.Async pin low value) x y h e =
    ap (λ p. if (if low then p == 0 else p == 1) then value else x) (h pin low value refl) ∙ ap (λ z. if (if low then g pin.0 == 0 else g pin.0 == 1) then value else z) e

async_eq : (p q : Id) (k l : Bool) (x y : ℕ) → resets.Async p k x ≡ resets.Async q l y → p ≡ q
async_eq p q k l x y e = cc

-- where no register is undriven, none waits
pub none_waits : (ns : List NetNode) (i : ℕ) (name : List ℕ) (w : ℕ) (reset : NetReset) → undriven ns ≡ 0 → slice_get ns i ≡ Some (Register name w reset None) → ⊥
none_waits [] i name w reset d g = let q : None ≡ Some (Register name w reset None) = g in cc
none_waits (n ∷ ns) zero name w reset d g =
    let q : n ≡ Register name w reset None = cc in
    let one : undriven (n ∷ []) ≡ 1 = ap (λ x. undriven (x ∷ [])) q in
    let all : undriven (n ∷ ns) ≡ undriven (n ∷ []) + undriven ns = sum_by-append _ (n ∷ []) ns in
    omega (arith, d, one, all)
none_waits (n ∷ ns) (suc i) name w reset d g =
    let all : undriven (n ∷ ns) ≡ undriven (n ∷ []) + undriven ns = sum_by-append _ (n ∷ []) ns in
    none_waits ns i name w reset (omega (arith, d, all)) g

module _ (net : Net) (made : IsMade net) where
  -- what holds of an input's pin, where it holds of the inputs'
  pub input_pin : (P : Pin → Type 0) → AllByRecursion P (inputs net) → (id : Id) (name : List ℕ) (w : ℕ) → IsInput net id name w → bytes_eq name clock ≡ false → P (record { name = name; width = w })
  input_pin P h id name w is other = let r = made.seated id name w is in seat_at_pin P is_data_input net.seats r.0 _ h r.1 (data_input id name w other)

  -- a reset's pin is a node that expressions may name
  pub reset_has : (w : ℕ) (reset : NetReset) → CanReset net w reset → (pin : Id) (low : Bool) (value : ℕ) → reset ≡ resets.Async pin low value → Has net pin
  reset_has w resets.None h pin low value e = absurd (let q : resets.None ≡ resets.Async pin low value = e in cc)
  reset_has w (resets.Async p l x) h pin low value e =
      let l = slice_get-within net.nodes p.0 _ h.1.is in
      let u : width_in net p ≡ 1 = input_width net made p h.0 1 h.1 h.2 l in
      subst (Has net) (async_eq p pin _ _ _ _ e) (l, omega arith)

  pub reset_below : (i : ℕ) (reset : NetReset) → IsPinBelow i reset → (pin : Id) (low : Bool) (value : ℕ) → reset ≡ resets.Async pin low value → pin.0 < i
  reset_below i resets.None h pin low value e = absurd (let q : resets.None ≡ resets.Async pin low value = e in cc)
  reset_below i (resets.Async p l x) h pin low value e = subst (λ z. z.0 < i) (async_eq p pin _ _ _ _ e) h

  module _ (u v : At) (p : IsEdge net u) (q : IsEdge net v) (ins : SameAt u.ins v.ins (inputs net)) (kept : SameAt u.kept v.kept (registers net)) where
    -- a node that expressions may name has one value
    abbrev Agrees : ℕ → Type 0
    Agrees i = i < length net.nodes → 0 < get_or (widths net) i 0 → u.node i ≡ v.node i

    node_agrees : (i : ℕ) (n : NetNode) → slice_get net.nodes i ≡ Some n → IsNodeMade net i n → 0 < node_width (widths net) n → ((j : ℕ) → j < i → Agrees j) → node_value u (widths net) n ≡ node_value v (widths net) n
    node_agrees i (Input name w) g m h before = input_pin (λ p. u.ins p.name ≡ v.ins p.name) ins (record { 0 = i }) name w (record { is = g }) (width_some (bytes_eq name clock) w h)
    node_agrees i (Register name w reset next) g m h before =
        under_same u.node v.node reset (u.kept name) (v.kept name)
        (λ pin low value e. let r = reset_has w reset m.1 pin low value e in before pin.0 (reset_below i reset m.2 pin low value e) r.0 r.1)
        (register_at_pin (λ p. u.kept p.name ≡ v.kept p.name) net.nodes i name w reset next kept g)
    node_agrees i (Wire e) g m h before =
        expr_value-same (widths net) u.node v.node e
        (each_two (λ a. a.0 < i) (Has net) (λ a. u.node a.0 ≡ v.node a.0) (operands e) (λ a l r. before a.0 l r.0 r.1) m.1 (operands_have net e m.0))

    agrees_at : (i : ℕ) → ((j : ℕ) → j < i → Agrees j) → Agrees i
    agrees_at i before l h =
        let r = item_at net.nodes i l in
        let w : get_or (widths net) i 0 ≡ node_width (widths net) r.0 = width_at net made i r.0 r.1 l in
        p.nodes i r.0 r.1 ∙ node_agrees i r.0 r.1 (made.nodes i r.0 r.1) (subst (λ z. 0 < z) w h) before ∙ sym (q.nodes i r.0 r.1)

    pub one_value : (id : Id) → Has net id → u.node id.0 ≡ v.node id.0
    one_value id h = each_number Agrees agrees_at (suc id.0) id.0 (omega arith) h.0 h.1

    -- the outputs are the same
    out_agrees : (i : ℕ) (s : Seat) → slice_get net.seats i ≡ Some s → (t : Option Occupant) → s.taken ≡ t → is_output s ≡ true → u.outs s.name ≡ v.outs s.name
    out_agrees i s g None e k = absurd (let z : false ≡ true = sym (ap (λ t. by_output t) e) ∙ k in cc)
    out_agrees i s g (Some (takes.Input id)) e k = absurd (let z : false ≡ true = sym (ap (λ t. by_output t) e) ∙ k in cc)
    out_agrees i s g (Some (takes.Output from)) e k =
        let h : slice_get net.seats i ≡ Some (record { name = s.name; width = s.width; taken = Some (takes.Output from) }) = g ∙ ap (λ t. Some (record { name = s.name; width = s.width; taken = t })) e in
        let st : Stands net from s.width = (made.seats i _ h).1 in
        p.outs i s.name s.width from h ∙ one_value from (st.below, omega (arith, st.some, st.width)) ∙ sym (q.outs i s.name s.width from h)

    pub one_out : SameAt u.outs v.outs (outputs net)
    one_out = each_seat_pin (λ p. u.outs p.name ≡ v.outs p.name) is_output net.seats (λ i s g k. out_agrees i s g s.taken refl k)

    module _ (driven : undriven net.nodes ≡ 0) where
      pub one_after : SameAt u.after v.after (registers net)
      one_after = each_register_pin (λ p. u.after p.name ≡ v.after p.name) net.nodes (λ i name w reset next g. by i name w reset next g)
        where
          by : (i : ℕ) (name : List ℕ) (w : ℕ) (reset : NetReset) (next : Option Id) → slice_get net.nodes i ≡ Some (Register name w reset next) → u.after name ≡ v.after name
          by i name w reset None g = absurd (none_waits net.nodes i name w reset driven g)
          by i name w reset (Some next) g =
              let m = made.nodes i _ g in
              let st : Stands net next w = m.3 in
              p.nexts i name w reset next g
              ∙ under_same u.node v.node reset (u.node next.0) (v.node next.0) (λ pin low value e. one_value pin (reset_has w reset m.1 pin low value e)) (one_value next (st.below, omega (arith, st.some, st.width)))
              ∙ sym (q.nexts i name w reset next g)

runs_from : (net : Net) → IsMade net → undriven net.nodes ≡ 0 → (xs os ps : List (List ℕ)) (c d : Values) → SameAt c d (registers net) → NetRun net c xs os → NetRun net d xs ps → os ≡ ps
runs_from net made driven [] [] [] c d k p q = refl
runs_from net made driven [] [] (o ∷ ps) c d k p q = absurd q
runs_from net made driven [] (o ∷ os) ps c d k p q = absurd p
runs_from net made driven (x ∷ xs) [] ps c d k p q = absurd p
runs_from net made driven (x ∷ xs) (o ∷ os) [] c d k p q = absurd q
runs_from net made driven (x ∷ xs) (o ∷ os) (r ∷ ps) c d k p q =
    let e = p.1 in
    let f = q.1 in
    let ins = same_of_values e.at.ins f.at.ins (inputs net) (e.given ∙ sym f.given) in
    let kept = joined e.at.kept c d f.at.kept (registers net) e.kept k f.kept in
    let same : o ≡ r = sym e.seen ∙ values_of_same e.at.outs f.at.outs (outputs net) (one_out net made e.at f.at e.edge f.edge ins kept) ∙ f.seen in
    let after = moved p.0 e.at.after f.at.after q.0 (registers net) e.moved (one_after net made e.at f.at e.edge f.edge ins kept driven) f.moved in
    let rest : os ≡ ps = runs_from net made driven xs os ps p.0 q.0 after p.2 q.2 in
    cc
  where
    joined : (a b c d : Values) (ps : List Pin) → SameAt a b ps → SameAt b c ps → SameAt d c ps → SameAt a d ps
    joined a b c d ps p q r = each_two (λ p. a p.name ≡ c p.name) (λ p. d p.name ≡ c p.name) (λ p. a p.name ≡ d p.name) ps (λ p x y. x ∙ sym y)
        (each_two (λ p. a p.name ≡ b p.name) (λ p. b p.name ≡ c p.name) (λ p. a p.name ≡ c p.name) ps (λ p x y. x ∙ y) p q) r

    moved : (a b c d : Values) (ps : List Pin) → SameAt b a ps → SameAt b c ps → SameAt c d ps → SameAt a d ps
    moved a b c d ps p q r = each_two (λ p. a p.name ≡ c p.name) (λ p. c p.name ≡ d p.name) (λ p. a p.name ≡ d p.name) ps (λ p x y. x ∙ y)
        (each_two (λ p. b p.name ≡ a p.name) (λ p. b p.name ≡ c p.name) (λ p. a p.name ≡ c p.name) ps (λ p x y. sym x ∙ y) p q) r

pub same_refl : (c : Values) (ps : List Pin) → SameAt c c ps
same_refl c [] = tt
same_refl c (p ∷ ps) = (refl, same_refl c ps)

-- A netlist whose registers are driven has at most one run from given contents over given vectors.
pub one_run : (net : Net) → IsMade net → undriven net.nodes ≡ 0 → (contents : Values) (xs os ps : List (List ℕ)) → NetRun net contents xs os → NetRun net contents xs ps → os ≡ ps
one_run net made driven contents xs os ps p q = runs_from net made driven xs os ps contents contents (same_refl contents (registers net)) p q
