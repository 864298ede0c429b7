use Rattle.std.proofs.Common.{◌≡◌, ◌∙◌, ap, sym, subst}
use Rattle.rtl_net.specs.Net.{Has, width_in}
use Rattle.rtl_net.specs.Ports.{IsFree, seated}
use Rattle.rtl_net.specs.declared.node.Occupant.TheVariants as takes
use Rattle.rtl_net.specs.contracts.net.Netlist.{the_view}
use Rattle.rtl_net.proofs.Calls.{OutputAdded, output_added, with_seats}
use Rattle.rtl_net.proofs.net.Netlist.output.Goals as goal

added : (c : goal.In_ok-take) → OutputAdded (the_view c.self.inside) (with_seats (the_view c.self.inside) c.take.new.self) c.args.name.now c.args.from
added c =
    let stands : Has (the_view c.self.inside) c.args.from = subst (λ n. Has n c.args.from) (sym c.self.view_is) c.requires.stands in
    let free : IsFree (the_view c.self.inside) c.args.name.now (width_in (the_view c.self.inside) c.args.from) = subst (λ n. IsFree n c.args.name.now (width_in n c.args.from)) (sym c.self.view_is) c.requires.free in
    let width : c.width-width.result ≡ width_in (the_view c.self.inside) c.args.from = c.width-width.ensures.operand c.requires.stands.1 ∙ ap (λ n. width_in n c.args.from) (sym c.self.view_is) in
    output_added (the_view c.self.inside) c.args.name.now c.args.from c.take.new.self c.self.invariant.0 c.requires.named stands free
    (c.in_ok-take.ensures.ok ∙ ap (λ w. seated c.self.inside.ports c.args.name.now w (takes.Output c.args.from)) width)

pub invariant_of-self-2 : goal.invariant_of-self-2
invariant_of-self-2 c = ((added c).made, c.self.invariant.1)

pub returns-clause-older : goal.returns-clause-older
returns-clause-older c = rw (← c.self.view_is) (added c).older

pub returns-clause-shown : goal.returns-clause-shown
returns-clause-shown c = (added c).shown
