use Rattle.std.proofs.Common.{◌∙◌, ap}
use Rattle.rtl_net.specs.Net.{registers_of}
use Rattle.rtl_net.specs.Ports.{IsFree}
use Rattle.rtl_net.specs.contracts.net.Netlist.{the_view}
use Rattle.rtl_net.proofs.Calls.{InputAdded, input_added}
use Rattle.rtl_net.proofs.NameLists.{names_moved}
use Rattle.rtl_net.proofs.net.Netlist.input.Goals as goal

added : (c : goal.In_ok-id) → InputAdded (the_view c.self.inside) (record { name = c.self.inside.name; nodes = c.add_input.new.nodes; seats = c.add_input.new.ports }) c.args.name.now c.args.width c.in_ok-id.id
added c =
    let free : IsFree (the_view c.self.inside) c.args.name.now c.args.width = rw c.self.view_is c.requires.free in
    let e = c.in_ok-id.ensures in
    input_added (the_view c.self.inside) _ _ _ _ _ c.self.invariant.0 c.requires.named c.requires.wide c.requires.clock free e.id e.nodes e.ports

pub invariant_of-self-2 : goal.invariant_of-self-2
invariant_of-self-2 c = ((added c).made, names_moved _ _ _ c.self.invariant.1 (added c).names)

pub returns-clause-older : goal.returns-clause-older
returns-clause-older c = rw (← c.self.view_is) (added c).older

pub returns-clause-awaits : goal.returns-clause-awaits
returns-clause-awaits c = rw (← c.self.view_is) (added c).awaits

pub returns-clause-registers : goal.returns-clause-registers
returns-clause-registers c = (added c).registers ∙ ap (λ n. registers_of n.nodes) c.self.view_is

pub returns-clause-input : goal.returns-clause-input
returns-clause-input c = (added c).input

pub returns-clause-node : goal.returns-clause-node
returns-clause-node c = (added c).node

pub returns-clause-clocked : goal.returns-clause-clocked
returns-clause-clocked c = (added c).clocked
