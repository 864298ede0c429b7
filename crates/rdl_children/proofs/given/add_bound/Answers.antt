use Rattle.std.proofs.Common.{◌∙◌, subst, sym}
use Rattle.rdl_children.specs.Children.{AddsGiven}
use Rattle.rdl_children.proofs.Sharing.{can_apart, can_below, can_defined, can_valued, uses_added}
use Rattle.rdl_children.proofs.given.add_bound.Goals as goal

pub list-requires-clause-below : goal.list-requires-clause-below
list-requires-clause-below c = can_below c.args.bodies.now c.args.body.now c.args.item.now c.requires.can c.requires.given c.behind-outer.result.now c.deref.result.now c.behind-outer.ensures (c.deref.ensures.value ∙ c.in_ok-uptos.ensures)

pub list-requires-clause-defined : goal.list-requires-clause-defined
list-requires-clause-defined c = can_defined c.args.bodies.now c.args.body.now c.args.item.now c.requires.can c.requires.given c.behind-outer.result.now c.deref.result.now c.behind-outer.ensures (c.deref.ensures.value ∙ c.in_ok-uptos.ensures)

pub list-requires-clause-apart : goal.list-requires-clause-apart
list-requires-clause-apart c = can_apart c.args.bodies.now c.args.body.now c.args.item.now c.requires.can c.args.parameters.now c.requires.given c.requires.values

pub list-requires-clause-valued : goal.list-requires-clause-valued
list-requires-clause-valued c = can_valued c.args.bodies.now c.args.body.now c.args.item.now c.requires.can c.args.parameters.now c.touched-touched.result.now c.requires.given c.requires.values c.touched-touched.ensures

pub returns : goal.returns
returns c =
    uses_added c.args.bodies.now c.list.new.self c.args.body.now c.args.item.now c.args.parameters.now c.touched-touched.result.now c.touched-touched.ensures c.behind-outer.result.now c.deref.result.now c.in_ok-site.site c.args.list.now.items c.add_given.new.list.items c.behind-outer.ensures (c.deref.ensures.value ∙ c.in_ok-uptos.ensures) c.requires.can c.requires.given c.requires.values
    (λ held k b kept def round bound. c.in_ok-site.ensures held k b kept def round bound)
    (subst (λ gs. AddsGiven c.in_ok-site.site c.args.item.now.alias gs c.args.list.now.items c.add_given.new.list.items) c.deref-2.ensures.value c.in_ok-add_given.ensures)
