use Rattle.std.proofs.Common.{ap, sym, ◌∙◌}
use Rattle.std.specs.Str.{bytes_eq}
use Rattle.rtl_net.specs.Names.{clock}
use Rattle.gen_ports.proofs.Laying.{free_named, on_false, other_name, pin_clock, pin_in, pin_out, same_name, seat_in}
use Rattle.gen_ports.proofs.laid.add.Goals as goal

pub input-requires-clause-free : goal.input-requires-clause-free
input-requires-clause-free c = free_named c.args.net.now c.args.port.now _ _ (c.deref-name.ensures.value ∙ ap (λ q. q.name) c.port.view_is) c.requires.new

pub returns-in_ok-push-in-In-clause-seats : goal.returns-in_ok-push-in-In-clause-seats
returns-in_ok-push-in-In-clause-seats c =
    seat_in c.args.net.now c.input.new.self c.args.port.now c.deref-name.result.now _ c.in_ok-id-in-In.id (c.deref-name.ensures.value ∙ ap (λ q. q.name) c.port.view_is) (ap (λ q. q.width) c.port.view_is)
    (sym (ap (λ q. q.dir) c.port.view_is) ∙ c.in-In.is) c.requires.new c.in_ok-id-in-In.ensures.seats

pub returns-in_ok-push-in-In-clause-pins : goal.returns-in_ok-push-in-In-clause-pins
returns-in_ok-push-in-In-clause-pins c =
    let other = other_name c.deref-name.result.now c.as_slice.result.now c.ne.result c.ne.ensures c.if-ne.true c.as_slice.ensures in
    pin_in c.input.new.self c.args.port.now c.deref-name.result.now _ c.args.ids.now.items c.push.new.self.items c.in_ok-id-in-In.id (c.deref-name.ensures.value ∙ ap (λ q. q.name) c.port.view_is) (ap (λ q. q.width) c.port.view_is)
    (sym (ap (λ q. q.dir) c.port.view_is) ∙ c.in-In.is) other c.in_ok-push-in-In.ensures.items c.in_ok-id-in-In.ensures.input (on_false (bytes_eq c.deref-name.result.now clock) other c.in_ok-id-in-In.ensures.node)

pub returns-else-ne-clause-seats : goal.returns-else-ne-clause-seats
returns-else-ne-clause-seats c =
    seat_in c.args.net.now c.input.new.self c.args.port.now c.deref-name.result.now _ c.in_ok-id-in-In.id (c.deref-name.ensures.value ∙ ap (λ q. q.name) c.port.view_is) (ap (λ q. q.width) c.port.view_is)
    (sym (ap (λ q. q.dir) c.port.view_is) ∙ c.in-In.is) c.requires.new c.in_ok-id-in-In.ensures.seats

pub returns-else-ne-clause-pins : goal.returns-else-ne-clause-pins
returns-else-ne-clause-pins c =
    pin_clock c.input.new.self c.args.port.now c.deref-name.result.now c.args.ids.now.items (c.deref-name.ensures.value ∙ ap (λ q. q.name) c.port.view_is)
    (sym (ap (λ q. q.dir) c.port.view_is) ∙ c.in-In.is) (same_name c.deref-name.result.now c.as_slice.result.now c.ne.result c.ne.ensures c.if-ne.false c.as_slice.ensures)

pub returns-in_ok-seat-in-Out-clause-pins : goal.returns-in_ok-seat-in-Out-clause-pins
returns-in_ok-seat-in-Out-clause-pins c = pin_out c.seat.new.self c.args.port.now c.args.ids.now.items (sym (ap (λ q. q.dir) c.port.view_is) ∙ c.in-Out.is)
