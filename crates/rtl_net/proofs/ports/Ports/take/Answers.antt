use Rattle.std.proofs.Common.{◌≡◌, ◌∙◌, sym, ap, subst, slice_get, Some}
use Rattle.rtl_net.specs.Places.{ArePlaces}
use Rattle.rtl_net.specs.Ports.{seat_names, seated}
use Rattle.rtl_net.proofs.PortLists.{seat_at, taken_by, seated-found, seated-new, seat_names-set}
use Rattle.rtl_net.proofs.ports.Ports.take.Goals as goal

pub invariant_of-self : goal.invariant_of-self
invariant_of-self c =
    let found : slice_get (seat_names c.self.inside.seats.items) c.in-Some.at ≡ Some c.args.name.now = rw c.self.view_is c.in-Some.ensures.found in
    let s = seat_at c.self.inside.seats.items c.in-Some.at c.args.name.now found in
    subst (ArePlaces c.self.inside.places) (sym (ap seat_names (c.mark.ensures s.0 s.1) ∙ seat_names-set c.self.inside.seats.items c.in-Some.at s.0 (taken_by s.0 c.args.taken) s.1 (λ i. s.0.name))) c.self.invariant

pub returns-in-Some-clause-ok : goal.returns-in-Some-clause-ok
returns-in-Some-clause-ok c =
    let found : slice_get (seat_names c.self.inside.seats.items) c.in-Some.at ≡ Some c.args.name.now = rw c.self.view_is c.in-Some.ensures.found in
    let s = seat_at c.self.inside.seats.items c.in-Some.at c.args.name.now found in
    c.mark.ensures s.0 s.1 ∙ sym (ap (λ ss. seated ss c.args.name.now c.args.width c.args.taken) (sym c.self.view_is)
    ∙ seated-found c.args.name.now c.args.width c.args.taken c.self.inside.seats.items c.in-Some.at s.0 s.1 s.2 (rw c.self.view_is c.in-Some.ensures.first))

pub returns-in-None-clause-ok : goal.returns-in-None-clause-ok
returns-in-None-clause-ok c = rw (seated-new c.args.name.now c.args.width c.args.taken c.args.self.now c.in-None.ensures.absent) c.push.ensures.ok
