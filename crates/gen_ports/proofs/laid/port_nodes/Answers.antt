use Rattle.std.proofs.Common.{◌∙◌, map, subst}
use Rattle.std.specs.Str.{bytes_eq}
use Rattle.rtl_net.specs.Names.{clock}
use Rattle.rtl_net.proofs.Nets.{Extends-trans}
use Rattle.v_design.specs.Design.{inputs_among}
use Rattle.gen_ports.specs.Laid.{AreInputs, AreSeatsOf}
use Rattle.gen_ports.proofs.Laying.{all_taken, listed, next_new, on_true, others_new, outputs_free, port_at, port_more, told_true}
use Rattle.gen_ports.proofs.laid.port_nodes.Goals as goal

pub add-requires-clause-named : goal.add-requires-clause-named
add-requires-clause-named c =
    let here = listed c.args.ports.now c.loop-port.port-index c.port-item.result c.loop-port-test.true c.port-item.is in
    (port_at c.args.ports.now c.requires.ports c.loop-port.port-index c.port-item.result here).named

pub add-requires-clause-new : goal.add-requires-clause-new
add-requires-clause-new c =
    let here = listed c.args.ports.now c.loop-port.port-index c.port-item.result c.loop-port-test.true c.port-item.is in
    next_new c.args.ports.now c.args.net.now c.loop-port.net c.loop-port.ids.items c.loop-port.port-index c.port-item.result c.requires.ports c.requires.plain c.loop-port.invariant here

pub add-requires-clause-wide : goal.add-requires-clause-wide
add-requires-clause-wide c =
    let here = listed c.args.ports.now c.loop-port.port-index c.port-item.result c.loop-port-test.true c.port-item.is in
    (port_at c.args.ports.now c.requires.ports c.loop-port.port-index c.port-item.result here).wide

pub add-requires-clause-clock : goal.add-requires-clause-clock
add-requires-clause-clock c =
    let here = listed c.args.ports.now c.loop-port.port-index c.port-item.result c.loop-port-test.true c.port-item.is in
    told_true (bytes_eq c.port-item.result.name clock) (port_at c.args.ports.now c.requires.ports c.loop-port.port-index c.port-item.result here).clocked

pub returns-in_err-add-clause-older : goal.returns-in_err-add-clause-older
returns-in_err-add-clause-older c = Extends-trans c.args.net.now c.loop-port.net c.add.new.net c.loop-port.invariant.older c.add.ensures.older

pub loop-port-preserved : goal.loop-port-preserved
loop-port-preserved c =
    let here = listed c.args.ports.now c.loop-port.port-index c.port-item.result c.loop-port-test.true c.port-item.is in
    port_more c.args.ports.now c.requires.ports c.args.net.now c.loop-port.net c.add.new.net c.loop-port.ids.items c.add.new.ids.items c.loop-port.port-index c.port-item.result c.loop-port.invariant here
    c.add.ensures.older c.add.ensures.name c.add.ensures.registers c.add.ensures.undriven (λ d t. on_true (bytes_eq c.port-item.result.name clock) t (c.in_ok-add.ensures.clocked d)) c.in_ok-add.ensures.seats c.in_ok-add.ensures.pins

pub returns-clause-seats : goal.returns-clause-seats
returns-clause-seats c = subst (AreSeatsOf c.loop-port.net.seats) (all_taken c.args.ports.now c.loop-port.port-index c.loop-port-test.false) c.loop-port.invariant.seats

pub returns-clause-inputs : goal.returns-clause-inputs
returns-clause-inputs c = subst (λ ps. AreInputs c.loop-port.net c.loop-port.ids.items (inputs_among ps)) (all_taken c.args.ports.now c.loop-port.port-index c.loop-port-test.false) c.loop-port.invariant.inputs

pub returns-clause-outputs : goal.returns-clause-outputs
returns-clause-outputs c =
    outputs_free c.args.ports.now c.loop-port.net c.requires.ports (subst (AreSeatsOf c.loop-port.net.seats) (all_taken c.args.ports.now c.loop-port.port-index c.loop-port-test.false) c.loop-port.invariant.seats) (c.loop-port.invariant.registers ∙ c.requires.plain)

pub returns-clause-others : goal.returns-clause-others
returns-clause-others c = λ name lacks.
    others_new c.args.ports.now c.loop-port.net name (subst (AreSeatsOf c.loop-port.net.seats) (all_taken c.args.ports.now c.loop-port.port-index c.loop-port-test.false) c.loop-port.invariant.seats) (c.loop-port.invariant.registers ∙ c.requires.plain) lacks
