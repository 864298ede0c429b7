use Rattle.std.proofs.Common.{◌≡◌, ◌∙◌, ◌∷◌, [], ℕ, true, List, map, Some, refl, ap, sym, subst}
use Rattle.rtl_net.specs.Net.{Net, CanWire, Stands, registers_of}
use Rattle.rtl_net.specs.Names.{Lacks}
use Rattle.rtl_net.specs.Ports.{IsFree, has_room, seated}
use Rattle.rtl_net.specs.declared.node.Id.{Id}
use Rattle.rtl_net.specs.declared.node.Seat.{Seat}
use Rattle.rtl_net.specs.declared.node.NetExpr.TheVariants.{And}
use Rattle.rtl_net.specs.declared.node.Occupant.TheVariants as takes
use Rattle.rtl_net.proofs.Nets.{Stands-has, Stands-extends, Stands-grows}
use Rattle.tests_cases.proofs.netlist.one_expression_is_one_wire.Goals as goal

free_of : (net : Net) (name : List ℕ) (w : ℕ) (ss : List Seat) → net.seats ≡ ss → registers_of net.nodes ≡ [] → has_room ss name w ≡ true → IsFree net name w
free_of net name w ss s r l = record {
  seats = subst (λ x. has_room x name w ≡ true) (sym s) l;
  registers = subst (λ x. Lacks (map (λ p. p.name) x) name) (sym r) refl;
}

can_and : (net : Net) (a b : Id) (w : ℕ) → Stands net a w → Stands net b w → CanWire net (And a b)
can_and net a b w p q = (Stands-has net a w p, Stands-has net b w q, p.width ∙ sym q.width)

pub input-requires-clause-free : goal.input-requires-clause-free
input-requires-clause-free c =
    free_of c.in_ok-net.net (97 ∷ []) 1 [] (ap (λ n. n.seats) c.in_ok-net.ensures) (ap (λ n. registers_of n.nodes) c.in_ok-net.ensures) refl

pub input-requires-2-clause-free : goal.input-requires-2-clause-free
input-requires-2-clause-free c =
    let s0 : c.in_ok-net.net.seats ≡ [] = ap (λ n. n.seats) c.in_ok-net.ensures in
    let r0 : registers_of c.in_ok-net.net.nodes ≡ [] = ap (λ n. registers_of n.nodes) c.in_ok-net.ensures in
    free_of c.input.new.self (98 ∷ []) 1 (record { name = 97 ∷ []; width = 1; taken = Some (takes.Input c.in_ok-a.a) } ∷ []) (c.in_ok-a.ensures.seats ∙ ap (λ x. seated x (97 ∷ []) 1 (takes.Input c.in_ok-a.a)) s0)
    (c.in_ok-a.ensures.registers ∙ r0) refl

pub wire-requires : goal.wire-requires
wire-requires c =
    can_and c.input-2.new.self c.in_ok-a.a c.in_ok-b.b 1 (Stands-extends _ _ _ _ c.in_ok-b.ensures.older c.in_ok-a.ensures.node.stands) c.in_ok-b.ensures.node.stands

pub wire-requires-2 : goal.wire-requires-2
wire-requires-2 c =
    can_and c.wire.new.self c.in_ok-a.a c.in_ok-b.b 1
    (Stands-grows _ _ _ _ c.in_ok-first.ensures.older (Stands-extends _ _ _ _ c.in_ok-b.ensures.older c.in_ok-a.ensures.node.stands))
    (Stands-grows _ _ _ _ c.in_ok-first.ensures.older c.in_ok-b.ensures.node.stands)
