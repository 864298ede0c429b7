use Rattle.std.proofs.Common.{◌≡◌, [], subst, sym}
use Rattle.rb_edge.specs.Flows.{Flows}
use Rattle.rb_edge.proofs.Flowing.{and_then, at_once}
use Rattle.rb_edge.proofs.page.Page.pass.Goals as goal

pub returns-clause-flows : goal.returns-clause-flows
returns-clause-flows g c =
    let e = c.write_all.ensures in
    let told = g.K.Sink.told in
    let faults = g.K.Sink.faults in
    let empty : [] ≡ c.flush.new.self = sym c.in_ok-flush.ensures.empty in
    let written = at_once (told c.flush.new.out) (told c.write_all.new.sink) (faults c.flush.new.out) (faults c.write_all.new.sink) c.args.bytes.now c.write_all.result e.later e.whole e.part e.failed in
    and_then {xs = []} c.in_ok-flush.ensures.flows (subst (λ z. Flows (told c.flush.new.out) (told c.write_all.new.sink) (faults c.flush.new.out) (faults c.write_all.new.sink) z z c.write_all.result c.args.bytes.now) empty written)
