use Rattle.std.proofs.Common.{◌∙◌, ap, subst, sym, map, ◌++◌, ◌∷◌, []}
use Rattle.rtl_net.specs.Net.{HasClock, CanReset, registers_of}
use Rattle.rtl_net.specs.Ports.{IsNew}
use Rattle.rtl_net.specs.Made.{IsMade}
use Rattle.rtl_net.specs.Places.{HasNames}
use Rattle.rtl_net.specs.contracts.net.Netlist.{the_view}
use Rattle.rtl_net.proofs.Calls.{RegisterAdded, register_added, with_nodes, names_pushed}
use Rattle.rtl_net.proofs.NameLists.{names_same}
use Rattle.rtl_net.proofs.net.Netlist.register.Goals as goal

added : (c : goal.In_ok-id) → RegisterAdded (the_view c.self.inside) (with_nodes (the_view c.self.inside) c.add_register.new.nodes) c.args.name.now c.args.width c.args.reset c.in_ok-id.id
added c =
    let clocked : HasClock (the_view c.self.inside) = subst (λ n. HasClock n) (sym c.self.view_is) c.requires.clock in
    let can : CanReset (the_view c.self.inside) c.args.width c.args.reset = rw c.self.view_is c.requires.reset in
    let new : IsNew (the_view c.self.inside) c.args.name.now = rw c.self.view_is c.requires.new in
    let e = c.in_ok-id.ensures in
    register_added (the_view c.self.inside) _ _ _ _ _ c.self.invariant.0 c.requires.named c.requires.wide clocked can new e.id e.nodes

pub invariant_of-self : goal.invariant_of-self
invariant_of-self c =
    let e = c.in_err-id.ensures in
    subst (λ ns. IsMade (with_nodes (the_view c.self.inside) ns) × HasNames c.add_register.new.names (map (λ r. r.name) (registers_of ns))) (sym e.same_nodes) (c.self.invariant.0, names_same _ _ _ c.self.invariant.1 e.same_names)

pub invariant_of-self-2 : goal.invariant_of-self-2
invariant_of-self-2 c =
    ((added c).made, names_pushed (registers_of c.self.inside.nodes) _ c.self.inside.registers c.add_register.new.names (record { name = c.args.name.now; width = c.args.width }) _ c.self.invariant.1 c.in_ok-id.ensures.names (added c).registers)

pub returns-clause-older : goal.returns-clause-older
returns-clause-older c = rw (← c.self.view_is) (added c).older

pub returns-clause-awaits : goal.returns-clause-awaits
returns-clause-awaits c = rw (← c.self.view_is) (added c).awaits

pub returns-clause-registers : goal.returns-clause-registers
returns-clause-registers c = (added c).registers ∙ ap (λ n. registers_of n.nodes ++ record { name = c.args.name.now; width = c.args.width } ∷ []) c.self.view_is

pub returns-clause-register : goal.returns-clause-register
returns-clause-register c = (added c).register

pub returns-clause-node : goal.returns-clause-node
returns-clause-node c = (added c).node
