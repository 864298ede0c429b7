use Rattle.rtl_net.specs.contracts.net.Netlist.{the_view}
use Rattle.rtl_net.specs.Ports.{IsNew}
use Rattle.rtl_net.proofs.Calls.{seat_made, seat_extends}
use Rattle.rtl_net.proofs.net.Netlist.seat.Goals as goal

pub invariant_of-self-2 : goal.invariant_of-self-2
invariant_of-self-2 c =
    let new : IsNew (the_view c.self.inside) c.args.name.now = rw c.self.view_is c.requires.new in
    (seat_made (the_view c.self.inside) _ _ _ c.self.invariant.0 c.requires.named c.requires.wide new c.in_ok-push.ensures.ok, c.self.invariant.1)

pub returns-clause-older : goal.returns-clause-older
returns-clause-older c =
    let new : IsNew (the_view c.self.inside) c.args.name.now = rw c.self.view_is c.requires.new in
    rw (← c.self.view_is) (seat_extends (the_view c.self.inside) _ _ _ c.self.invariant.0 c.requires.named c.requires.wide new c.in_ok-push.ensures.ok)
