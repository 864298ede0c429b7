use Rattle.std.proofs.Common.{◌≡◌, ◌∙◌, ap, sym, slice_get, Some, take}
use Rattle.rtl_net.specs.Names.{Lacks}
use Rattle.rtl_net.specs.Ports.{seat_names, taken_in}
use Rattle.rtl_net.proofs.Places.{slice_get-within}
use Rattle.rtl_net.proofs.PortLists.{seat_at, taken_in-found, taken_in-absent}
use Rattle.rtl_net.proofs.ports.Ports.taken.Goals as goal

pub taken_at-requires : goal.taken_at-requires
taken_at-requires c =
    let found : slice_get (seat_names c.self.inside.seats.items) c.in-Some.at ≡ Some c.args.name.now = rw c.self.view_is c.in-Some.ensures.found in
    let s = seat_at c.self.inside.seats.items c.in-Some.at c.args.name.now found in
    rw c.deref.ensures.value (slice_get-within _ _ _ s.1)

pub returns-in-Some : goal.returns-in-Some
returns-in-Some c =
    let found : slice_get (seat_names c.self.inside.seats.items) c.in-Some.at ≡ Some c.args.name.now = rw c.self.view_is c.in-Some.ensures.found in
    let first : Lacks (take c.in-Some.at (seat_names c.self.inside.seats.items)) c.args.name.now = rw c.self.view_is c.in-Some.ensures.first in
    let s = seat_at c.self.inside.seats.items c.in-Some.at c.args.name.now found in
    let read : slice_get c.deref.result.now c.in-Some.at ≡ Some s.0 = rw c.deref.ensures.value s.1 in
    c.taken_at.ensures s.0 read ∙ sym (ap (λ ss. taken_in ss c.args.name.now) (sym c.self.view_is) ∙ taken_in-found c.args.name.now c.self.inside.seats.items c.in-Some.at s.0 s.1 s.2 first)

pub returns-in-None : goal.returns-in-None
returns-in-None c = sym (taken_in-absent c.args.name.now c.args.self.now c.in-None.ensures.absent)
