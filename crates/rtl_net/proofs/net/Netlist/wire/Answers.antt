use Rattle.std.proofs.Common.{sym, subst}
use Rattle.rtl_net.specs.Net.{CanWire}
use Rattle.rtl_net.specs.contracts.net.Netlist.{the_view}
use Rattle.rtl_net.proofs.Calls.{WireAdded, wire_shared, with_nodes}
use Rattle.rtl_net.proofs.NameLists.{names_moved}
use Rattle.rtl_net.proofs.net.Netlist.wire.Goals as goal

added : (c : goal.In_ok-id) → WireAdded (the_view c.self.inside) (with_nodes (the_view c.self.inside) c.wire.new.self) c.args.expr c.in_ok-id.id
added c =
    let can : CanWire (the_view c.self.inside) c.args.expr = subst (λ n. CanWire n c.args.expr) (sym c.self.view_is) c.requires in
    wire_shared (the_view c.self.inside) c.args.expr c.in_ok-id.id c.wire.new.self c.self.invariant.0 can c.in_ok-id.ensures.ok

pub invariant_of-self-2 : goal.invariant_of-self-2
invariant_of-self-2 c = ((added c).made, names_moved _ _ _ c.self.invariant.1 (added c).names)

pub returns-clause-older : goal.returns-clause-older
returns-clause-older c = rw (← c.self.view_is) (added c).older

pub returns-clause-node : goal.returns-clause-node
returns-clause-node c = rw (← c.self.view_is) (added c).node

pub returns-clause-wire : goal.returns-clause-wire
returns-clause-wire c = (added c).wire
