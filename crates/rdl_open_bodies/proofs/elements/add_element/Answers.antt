use Rattle.std.proofs.Common.{◌+◌, ap, arith, refl, subst, sym}
use Rattle.rdl_uses.specs.Parts.{StandsAt}
use Rattle.rdl_walk.proofs.Loops.{element_fits}
use Rattle.rdl_open_bodies.proofs.Started.{start_of}
use Rattle.rdl_open_bodies.proofs.elements.add_element.Goals as goal

pub returns-in_default : goal.returns-in_default
returns-in_default c = λ e t p levels scope s h use_in of.
    let few = element_fits t c.args.child.now s h c.args.round.now.standing c.args.number c.in_ok-row.row.now (subst (StandsAt c.args.round.now.standing) (sym use_in.parent) of.stands) c.requires.within c.in_ok-row.ensures.short in
    let many = c.in_default.ensures in
    absurd (omega (arith, few, many))

pub returns : goal.returns
returns c = λ e t p levels scope s h use_in of.
    (_, c.in_ok-push.ensures.items, (start_of e t c.args.child.now c.args.round.now p levels c.args.number scope s h (record { depth = c.args.round.now.standing.depth + 1; prefix = c.in-Some.len + 1 }) c.in_ok-row.row.now use_in of c.in_ok-row.ensures.row refl (ap (λ n. n + 1) c.in-Some.ensures.0), tt))
