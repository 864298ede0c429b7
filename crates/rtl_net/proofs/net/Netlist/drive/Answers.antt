use Rattle.std.proofs.Common.{◌≡◌, ◌∙◌, ap, sym, subst, map}
use Rattle.rtl_net.specs.Value.{under}
use Rattle.rtl_net.specs.Net.{Awaits, Stands, registers_of, undriven}
use Rattle.rtl_net.specs.contracts.net.Netlist.{the_view}
use Rattle.rtl_net.proofs.Calls.{Driven, register_driven, with_nodes, one_waiting}
use Rattle.rtl_net.proofs.NameLists.{names_moved}
use Rattle.rtl_net.proofs.net.Netlist.drive.Goals as goal

tied : (c : goal.After-tie) → Driven (the_view c.self.inside) (with_nodes (the_view c.self.inside) c.tie.new.self) c.args.reg c.args.next c.requires.name c.requires.reset
tied c =
    let a : Awaits (the_view c.self.inside) c.args.reg c.requires.name c.requires.width c.requires.reset = rw c.self.view_is c.requires.awaits in
    let s : Stands (the_view c.self.inside) c.args.next c.requires.width = rw c.self.view_is c.requires.stands in
    register_driven (the_view c.self.inside) _ _ _ _ _ _ c.self.invariant.0 a s (c.tie.ensures _ _ _ a.is)

pub invariant_of-self : goal.invariant_of-self
invariant_of-self c = ((tied c).made, names_moved _ _ _ c.self.invariant.1 (ap (map (λ r. r.name)) (sym (tied c).registers)))

pub returns-clause-older : goal.returns-clause-older
returns-clause-older c = rw (← c.self.view_is) (tied c).older

pub returns-clause-others : goal.returns-clause-others
returns-clause-others c = rw (← c.self.view_is) (tied c).others

pub returns-clause-registers : goal.returns-clause-registers
returns-clause-registers c = (tied c).registers ∙ ap (λ n. registers_of n.nodes) c.self.view_is

pub returns-clause-undriven : goal.returns-clause-undriven
returns-clause-undriven c = (tied c).undriven ∙ ap (λ n. undriven n.nodes) c.self.view_is

pub returns-clause-driven : goal.returns-clause-driven
returns-clause-driven c = λ name w reset a v s.
    let one = one_waiting _ _ _ name _ w _ reset c.requires.awaits a in
    subst (λ n. v.after n ≡ under v.node reset (v.node c.args.next.0)) one.0 (subst (λ r. v.after c.requires.name ≡ under v.node r (v.node c.args.next.0)) one.1 ((tied c).driven v s))
