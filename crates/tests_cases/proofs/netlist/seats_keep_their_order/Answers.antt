use Rattle.std.proofs.Common.{◌≡◌, ◌∙◌, ◌++◌, ◌∷◌, [], ℕ, true, List, map, None, refl, ap, sym, subst}
use Rattle.rtl_net.specs.Net.{Net, registers_of, width_in}
use Rattle.rtl_net.specs.Names.{Lacks}
use Rattle.rtl_net.specs.Ports.{IsNew, IsFree, has_room, seat_names, seated}
use Rattle.rtl_net.specs.declared.node.Seat.{Seat}
use Rattle.rtl_net.specs.declared.node.Occupant.TheVariants as takes
use Rattle.rtl_net.proofs.Nets.{Stands-has}
use Rattle.tests_cases.proofs.netlist.seats_keep_their_order.Goals as goal

new_of : (net : Net) (name : List ℕ) (ss : List Seat) → net.seats ≡ ss → registers_of net.nodes ≡ [] → Lacks (seat_names ss) name → IsNew net name
new_of net name ss s r l = record {
  seats = subst (λ x. Lacks (seat_names x) name) (sym s) l;
  registers = subst (λ x. Lacks (map (λ p. p.name) x) name) (sym r) refl;
}

free_of : (net : Net) (name : List ℕ) (w : ℕ) (ss : List Seat) → net.seats ≡ ss → registers_of net.nodes ≡ [] → has_room ss name w ≡ true → IsFree net name w
free_of net name w ss s r l = record {
  seats = subst (λ x. has_room x name w ≡ true) (sym s) l;
  registers = subst (λ x. Lacks (map (λ p. p.name) x) name) (sym r) refl;
}

free_wide : (net : Net) (name : List ℕ) (w u : ℕ) → w ≡ u → IsFree net name u → IsFree net name w
free_wide net name w u e f = subst (λ x. IsFree net name x) (sym e) f

pub seat-requires-clause-new : goal.seat-requires-clause-new
seat-requires-clause-new c = new_of c.in_ok-net.net _ [] (ap (λ n. n.seats) c.in_ok-net.ensures) (ap (λ n. registers_of n.nodes) c.in_ok-net.ensures) refl

pub seat-requires-2-clause-new : goal.seat-requires-2-clause-new
seat-requires-2-clause-new c =
    let s0 : c.in_ok-net.net.seats ≡ [] = ap (λ n. n.seats) c.in_ok-net.ensures in
    let r0 : registers_of c.in_ok-net.net.nodes ≡ [] = ap (λ n. registers_of n.nodes) c.in_ok-net.ensures in
    new_of c.seat.new.self _ (record { name = 98 ∷ []; width = 1; taken = None } ∷ []) (c.in_ok-seat.ensures.seats ∙ ap (λ x. x ++ record { name = 98 ∷ []; width = 1; taken = None } ∷ []) s0) (ap registers_of c.in_ok-seat.ensures.nodes ∙ r0) refl

pub input-requires-clause-free : goal.input-requires-clause-free
input-requires-clause-free c =
    let b : Seat = record { name = 98 ∷ []; width = 1; taken = None } in
    let a : Seat = record { name = 97 ∷ []; width = 1; taken = None } in
    let s0 : c.in_ok-net.net.seats ≡ [] = ap (λ n. n.seats) c.in_ok-net.ensures in
    let r0 : registers_of c.in_ok-net.net.nodes ≡ [] = ap (λ n. registers_of n.nodes) c.in_ok-net.ensures in
    let s1 : c.seat.new.self.seats ≡ b ∷ [] = c.in_ok-seat.ensures.seats ∙ ap (λ x. x ++ b ∷ []) s0 in
    let s2 : c.seat-2.new.self.seats ≡ b ∷ a ∷ [] = c.in_ok-seat-2.ensures.seats ∙ ap (λ x. x ++ a ∷ []) s1 in
    let r2 : registers_of c.seat-2.new.self.nodes ≡ [] = ap registers_of c.in_ok-seat-2.ensures.nodes ∙ ap registers_of c.in_ok-seat.ensures.nodes ∙ r0 in
    free_of c.seat-2.new.self (97 ∷ []) 1 (b ∷ a ∷ []) s2 r2 refl

pub output-requires-clause-stands : goal.output-requires-clause-stands
output-requires-clause-stands c = Stands-has _ _ _ c.in_ok-a.ensures.node.stands

pub output-requires-clause-free : goal.output-requires-clause-free
output-requires-clause-free c =
    let b : Seat = record { name = 98 ∷ []; width = 1; taken = None } in
    let a : Seat = record { name = 97 ∷ []; width = 1; taken = None } in
    let s0 : c.in_ok-net.net.seats ≡ [] = ap (λ n. n.seats) c.in_ok-net.ensures in
    let r0 : registers_of c.in_ok-net.net.nodes ≡ [] = ap (λ n. registers_of n.nodes) c.in_ok-net.ensures in
    let s1 : c.seat.new.self.seats ≡ b ∷ [] = c.in_ok-seat.ensures.seats ∙ ap (λ x. x ++ b ∷ []) s0 in
    let s2 : c.seat-2.new.self.seats ≡ b ∷ a ∷ [] = c.in_ok-seat-2.ensures.seats ∙ ap (λ x. x ++ a ∷ []) s1 in
    let s3 : c.input.new.self.seats ≡ seated (b ∷ a ∷ []) (97 ∷ []) 1 (takes.Input c.in_ok-a.a) = c.in_ok-a.ensures.seats ∙ ap (λ x. seated x (97 ∷ []) 1 (takes.Input c.in_ok-a.a)) s2 in
    let r3 : registers_of c.input.new.self.nodes ≡ [] = c.in_ok-a.ensures.registers ∙ ap registers_of c.in_ok-seat-2.ensures.nodes ∙ ap registers_of c.in_ok-seat.ensures.nodes ∙ r0 in
    free_wide c.input.new.self (98 ∷ []) (width_in c.input.new.self c.in_ok-a.a) 1 c.in_ok-a.ensures.node.stands.width (free_of c.input.new.self (98 ∷ []) 1 (seated (b ∷ a ∷ []) (97 ∷ []) 1 (takes.Input c.in_ok-a.a)) s3 r3 refl)
