use Rattle.std.proofs.Common.{sym, subst}
use Rattle.rtl_net.specs.Names.{Lacks}
use Rattle.rtl_net.specs.Places.{ArePlaces}
use Rattle.rtl_net.specs.Ports.{seat_names}
use Rattle.rtl_net.proofs.NameLists.{places_same}
use Rattle.rtl_net.proofs.PortLists.{seat_pushed}
use Rattle.rtl_net.proofs.ports.Ports.push.Goals as goal

pub invariant_of-self : goal.invariant_of-self
invariant_of-self c =
    subst (λ ss. ArePlaces c.push.new.places (seat_names ss)) (sym c.in_err-push.ensures.same_seats) (places_same c.self.inside.places c.push.new.places (seat_names c.self.inside.seats.items) c.self.invariant c.in_err-push.ensures.same_places)

pub invariant_of-self-2 : goal.invariant_of-self-2
invariant_of-self-2 c =
    let lacks : Lacks (seat_names c.self.inside.seats.items) c.args.name.now = rw c.self.view_is c.requires in
    subst (λ ss. ArePlaces c.push.new.places (seat_names ss)) (sym c.in_ok-push.ensures.seats) (seat_pushed c.self.inside.places c.push.new.places c.self.inside.seats.items _ c.self.invariant lacks c.in_ok-push.ensures.places)
