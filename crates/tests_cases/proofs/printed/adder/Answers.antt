use Rattle.std.specs.List.{list_all}
use Rattle.std.proofs.Common.{◌≡◌, ◌∙◌, ◌∷◌, [], ℕ, ◌<◌, true, List, length, map, Some, is_some, refl, ap, sym, subst, arith}
use Rattle.rtl_net.specs.Net.{Net, CanWire, Stands, Extends, registers_of, undriven, width_in}
use Rattle.rtl_net.specs.Names.{Lacks}
use Rattle.rtl_net.specs.Ports.{IsFree, has_room, seated}
use Rattle.rtl_net.specs.declared.node.Id.{Id}
use Rattle.rtl_net.specs.declared.node.Seat.{Seat}
use Rattle.rtl_net.specs.declared.node.NetExpr.TheVariants.{Add}
use Rattle.rtl_net.specs.declared.node.Occupant.TheVariants as takes
use Rattle.rtl_net.proofs.Nets.{Stands-has, Stands-extends}
use Rattle.v_printer.specs.TextOf.{IsWhole}
use Rattle.tests_cases.proofs.printed.adder.Goals as goal

free_of : (net : Net) (name : List ℕ) (w : ℕ) (ss : List Seat) → net.seats ≡ ss → registers_of net.nodes ≡ [] → has_room ss name w ≡ true → IsFree net name w
free_of net name w ss s r l = record {
  seats = subst (λ x. has_room x name w ≡ true) (sym s) l;
  registers = subst (λ x. Lacks (map (λ p. p.name) x) name) (sym r) refl;
}

can_add : (net : Net) (a b : Id) (w : ℕ) → Stands net a w → Stands net b w → CanWire net (Add a b)
can_add net a b w p q = (Stands-has net a w p, Stands-has net b w q, p.width ∙ sym q.width)

whole_of : (net : Net) (ss : List Seat) → undriven net.nodes ≡ 0 → net.seats ≡ ss → 0 < length ss → list_all (λ s. is_some s.taken) ss ≡ true → IsWhole net
whole_of net ss d e l t = record {
  driven = d;
  some = subst (λ (x : List Seat). 0 < length x) (sym e) l;
  taken = subst (λ (x : List Seat). list_all (λ s. is_some s.taken) x ≡ true) (sym e) t;
}

-- the ports after the inputs
abbrev inputs : (a b : Id) → List Seat
inputs a b = record { name = 97 ∷ []; width = 1; taken = Some (takes.Input a) } ∷ record { name = 98 ∷ []; width = 1; taken = Some (takes.Input b) } ∷ []

pub input-requires-clause-free : goal.input-requires-clause-free
input-requires-clause-free c =
    free_of c.in_ok-net.net (97 ∷ []) 1 [] (ap (λ n. n.seats) c.in_ok-net.ensures) (ap (λ n. registers_of n.nodes) c.in_ok-net.ensures) refl

pub input-requires-2-clause-free : goal.input-requires-2-clause-free
input-requires-2-clause-free c =
    let s0 : c.in_ok-net.net.seats ≡ [] = ap (λ n. n.seats) c.in_ok-net.ensures in
    let r0 : registers_of c.in_ok-net.net.nodes ≡ [] = ap (λ n. registers_of n.nodes) c.in_ok-net.ensures in
    free_of c.input.new.self (98 ∷ []) 1 (seated [] (97 ∷ []) 1 (takes.Input c.in_ok-a.a)) (c.in_ok-a.ensures.seats ∙ ap (λ x. seated x (97 ∷ []) 1 (takes.Input c.in_ok-a.a)) s0)
    (c.in_ok-a.ensures.registers ∙ r0) refl

pub wire-requires : goal.wire-requires
wire-requires c =
    can_add c.input-2.new.self c.in_ok-a.a c.in_ok-b.b 1 (Stands-extends _ _ _ _ c.in_ok-b.ensures.older c.in_ok-a.ensures.node.stands) c.in_ok-b.ensures.node.stands

pub output-requires-clause-stands : goal.output-requires-clause-stands
output-requires-clause-stands c = Stands-has _ _ _ c.in_ok-sum.ensures.node.stands

pub output-requires-clause-free : goal.output-requires-clause-free
output-requires-clause-free c =
    let s0 : c.in_ok-net.net.seats ≡ [] = ap (λ n. n.seats) c.in_ok-net.ensures in
    let r0 : registers_of c.in_ok-net.net.nodes ≡ [] = ap (λ n. registers_of n.nodes) c.in_ok-net.ensures in
    let s1 : c.input.new.self.seats ≡ seated [] (97 ∷ []) 1 (takes.Input c.in_ok-a.a) = c.in_ok-a.ensures.seats ∙ ap (λ x. seated x (97 ∷ []) 1 (takes.Input c.in_ok-a.a)) s0 in
    let s2 : c.input-2.new.self.seats ≡ seated (seated [] (97 ∷ []) 1 (takes.Input c.in_ok-a.a)) (98 ∷ []) 1 (takes.Input c.in_ok-b.b) = c.in_ok-b.ensures.seats ∙ ap (λ x. seated x (98 ∷ []) 1 (takes.Input c.in_ok-b.b)) s1 in
    let r3 : registers_of c.wire.new.self.nodes ≡ [] = c.in_ok-sum.ensures.older.registers ∙ c.in_ok-b.ensures.registers ∙ c.in_ok-a.ensures.registers ∙ r0 in
    free_of c.wire.new.self (115 ∷ []) (width_in c.wire.new.self c.in_ok-sum.sum) (inputs c.in_ok-a.a c.in_ok-b.b) (c.in_ok-sum.ensures.older.seats ∙ s2) r3 refl

pub returns : goal.returns
returns c =
    let s0 : c.in_ok-net.net.seats ≡ [] = ap (λ n. n.seats) c.in_ok-net.ensures in
    let u0 : undriven c.in_ok-net.net.nodes ≡ 0 = ap (λ n. undriven n.nodes) c.in_ok-net.ensures in
    let s1 : c.input.new.self.seats ≡ seated [] (97 ∷ []) 1 (takes.Input c.in_ok-a.a) = c.in_ok-a.ensures.seats ∙ ap (λ x. seated x (97 ∷ []) 1 (takes.Input c.in_ok-a.a)) s0 in
    let s2 : c.input-2.new.self.seats ≡ seated (seated [] (97 ∷ []) 1 (takes.Input c.in_ok-a.a)) (98 ∷ []) 1 (takes.Input c.in_ok-b.b) = c.in_ok-b.ensures.seats ∙ ap (λ x. seated x (98 ∷ []) 1 (takes.Input c.in_ok-b.b)) s1 in
    let s3 : c.wire.new.self.seats ≡ inputs c.in_ok-a.a c.in_ok-b.b = c.in_ok-sum.ensures.older.seats ∙ s2 in
    let u4 : undriven c.output.new.self.nodes ≡ 0 = ap undriven c.in_ok-output.ensures.nodes ∙ c.in_ok-sum.ensures.older.undriven ∙ c.in_ok-b.ensures.undriven ∙ c.in_ok-a.ensures.undriven ∙ u0 in
    whole_of c.output.new.self (seated (inputs c.in_ok-a.a c.in_ok-b.b) (115 ∷ []) (width_in c.wire.new.self c.in_ok-sum.sum) (takes.Output c.in_ok-sum.sum)) u4
    (c.in_ok-output.ensures.seats ∙ ap (λ x. seated x (115 ∷ []) (width_in c.wire.new.self c.in_ok-sum.sum) (takes.Output c.in_ok-sum.sum)) s3) (omega arith) refl
