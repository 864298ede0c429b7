use Rattle.std.proofs.Common.{◌++◌, codes, map, sym, ◌∙◌, subst}
use Rattle.rtl_net.specs.Names.{Lacks}
use Rattle.rtl_net.specs.Ports.{seat_names}
use Rattle.rtl_net.proofs.Nets.{Extends-trans}
use Rattle.rb_model.specs.Kept.{Waited, Data, Error, field_kept}
use Rattle.rb_model.specs.Ports.{input_pins, outlets, pin, ports}
use Rattle.gen_scene.specs.Bases.{HasPins}
use Rattle.gen_ports.specs.Laid.{AreInputs, CanLay}
use Rattle.gen_front.proofs.Ports.{ports_laid, taken_lacks}
use Rattle.gen_apb.proofs.Naming.{can_lay, kept_of_fields}
use Rattle.gen_core.specs.Ties.{outlet_pin}
use Rattle.gen_scene.proofs.Worths.{HasPins-extends}
use Rattle.gen_apb.proofs.OfBus.{pin_node-extends}
use Rattle.gen_apb.proofs.Edging.{bus_kept}
use Rattle.gen_apb.proofs.Parts.{built, bus_first, bus_free, closes_waits, data_apart, data_kept, data_new, field_new, keeps_data, keeps_first, keeps_more, kept_new, most_kept, outlet_free, pins_laid}
use Rattle.gen_apb.proofs.assembly.build.Goals as goal

pub port_nodes-requires-clause-ports : goal.port_nodes-requires-clause-ports
port_nodes-requires-clause-ports c =
    let b = c.args.block.now in
    subst CanLay (sym (c.deref.ensures.value ∙ c.in_ok-ports.ensures)) (can_lay b c.requires.sound (c.names_differ.ensures b c.requires.sound))

pub bus_pins-bus-requires-clause-pins : goal.bus_pins-bus-requires-clause-pins
bus_pins-bus-requires-clause-pins c =
    let b = c.args.block.now in
    let n1 = c.port_nodes.new.net in
    let ids = c.in_ok-pins.pins.items in
    let laid = ports_laid n1 ids c.deref.result.now (ports b) (c.deref.ensures.value ∙ c.in_ok-ports.ensures)
    (record { seats = c.in_ok-pins.ensures.seats; inputs = c.in_ok-pins.ensures.inputs; outputs = c.in_ok-pins.ensures.outputs; others = c.in_ok-pins.ensures.others }) in
    (n1, subst (λ xs. AreInputs n1 xs (input_pins b)) (sym c.deref-2.ensures.value) laid.inputs)

pub bus_front-requires-clause-pins : goal.bus_front-requires-clause-pins
bus_front-requires-clause-pins c =
    let b = c.args.block.now in
    let n1 = c.port_nodes.new.net in
    let ids = c.in_ok-pins.pins.items in
    let laid = ports_laid n1 ids c.deref.result.now (ports b) (c.deref.ensures.value ∙ c.in_ok-ports.ensures)
    (record { seats = c.in_ok-pins.ensures.seats; inputs = c.in_ok-pins.ensures.inputs; outputs = c.in_ok-pins.ensures.outputs; others = c.in_ok-pins.ensures.others }) in
    c.bus_pins-bus.ensures n1 (subst (λ xs. AreInputs n1 xs (input_pins b)) (sym c.deref-2.ensures.value) laid.inputs)

pub bus_front-requires-clause-wait : goal.bus_front-requires-clause-wait
bus_front-requires-clause-wait c = λ w.
    let b = c.args.block.now in
    let n1 = c.port_nodes.new.net in
    let ids = c.in_ok-pins.pins.items in
    let laid = ports_laid n1 ids c.deref.result.now (ports b) (c.deref.ensures.value ∙ c.in_ok-ports.ensures)
    (record { seats = c.in_ok-pins.ensures.seats; inputs = c.in_ok-pins.ensures.inputs; outputs = c.in_ok-pins.ensures.outputs; others = c.in_ok-pins.ensures.others }) in
    kept_new b n1 ids (c.names_differ.ensures b c.requires.sound) laid Waited (bus_kept b w).0

pub bus_front-requires-clause-error : goal.bus_front-requires-clause-error
bus_front-requires-clause-error c = λ w.
    let b = c.args.block.now in
    let n1 = c.port_nodes.new.net in
    let ids = c.in_ok-pins.pins.items in
    let laid = ports_laid n1 ids c.deref.result.now (ports b) (c.deref.ensures.value ∙ c.in_ok-ports.ensures)
    (record { seats = c.in_ok-pins.ensures.seats; inputs = c.in_ok-pins.ensures.inputs; outputs = c.in_ok-pins.ensures.outputs; others = c.in_ok-pins.ensures.others }) in
    kept_new b n1 ids (c.names_differ.ensures b c.requires.sound) laid Error (bus_kept b w).2

pub core-requires-clause-pins : goal.core-requires-clause-pins
core-requires-clause-pins c =
    let b = c.args.block.now in
    let n1 = c.port_nodes.new.net in
    let ids = c.in_ok-pins.pins.items in
    let laid = ports_laid n1 ids c.deref.result.now (ports b) (c.deref.ensures.value ∙ c.in_ok-ports.ensures)
    (record { seats = c.in_ok-pins.ensures.seats; inputs = c.in_ok-pins.ensures.inputs; outputs = c.in_ok-pins.ensures.outputs; others = c.in_ok-pins.ensures.others }) in
    HasPins-extends n1 c.bus_front.new.net c.in_ok-front.ensures.older b c.deref-3.result.now (subst (λ xs. HasPins b n1 xs) (sym c.deref-3.ensures.value) (pins_laid b n1 ids laid))

pub core-requires-clause-registers : goal.core-requires-clause-registers
core-requires-clause-registers c = λ k h.
    let b = c.args.block.now in
    let apart = c.names_differ.ensures b c.requires.sound in
    let n1 = c.port_nodes.new.net in
    let ids = c.in_ok-pins.pins.items in
    let laid = ports_laid n1 ids c.deref.result.now (ports b) (c.deref.ensures.value ∙ c.in_ok-ports.ensures)
    (record { seats = c.in_ok-pins.ensures.seats; inputs = c.in_ok-pins.ensures.inputs; outputs = c.in_ok-pins.ensures.outputs; others = c.in_ok-pins.ensures.others }) in
    let n2 = c.bus_front.new.net in
    let first = keeps_first b n1 n2 c.port_nodes.ensures.registers c.in_ok-front.ensures.registers in
    field_new b apart n1 n2 k c.in_ok-front.ensures.seats first h (kept_new b n1 ids apart laid k (kept_of_fields b k h))

pub core-requires-clause-outputs : goal.core-requires-clause-outputs
core-requires-clause-outputs c = λ o h.
    let b = c.args.block.now in
    let apart = c.names_differ.ensures b c.requires.sound in
    let n1 = c.port_nodes.new.net in
    let ids = c.in_ok-pins.pins.items in
    let laid = ports_laid n1 ids c.deref.result.now (ports b) (c.deref.ensures.value ∙ c.in_ok-ports.ensures)
    (record { seats = c.in_ok-pins.ensures.seats; inputs = c.in_ok-pins.ensures.inputs; outputs = c.in_ok-pins.ensures.outputs; others = c.in_ok-pins.ensures.others }) in
    let n2 = c.bus_front.new.net in
    let first = keeps_first b n1 n2 c.port_nodes.ensures.registers c.in_ok-front.ensures.registers in
    outlet_free b apart n1 n2 o c.in_ok-front.ensures.seats first laid.outputs h

pub data_node-requires-clause-resetn : goal.data_node-requires-clause-resetn
data_node-requires-clause-resetn c =
    let b = c.args.block.now in
    let n1 = c.port_nodes.new.net in
    let ids = c.in_ok-pins.pins.items in
    let laid = ports_laid n1 ids c.deref.result.now (ports b) (c.deref.ensures.value ∙ c.in_ok-ports.ensures)
    (record { seats = c.in_ok-pins.ensures.seats; inputs = c.in_ok-pins.ensures.inputs; outputs = c.in_ok-pins.ensures.outputs; others = c.in_ok-pins.ensures.others }) in
    let n2 = c.bus_front.new.net in
    let n3 = c.core.new.net in
    pin_node-extends n1 n3 c.bus_pins-bus.result.resetn (pin (codes "PRESETn") 1) (Extends-trans n1 n2 n3 c.in_ok-front.ensures.older c.core.ensures.older)
    (c.bus_pins-bus.ensures n1 (subst (λ xs. AreInputs n1 xs (input_pins b)) (sym c.deref-2.ensures.value) laid.inputs)).resetn

pub data_node-requires-clause-new : goal.data_node-requires-clause-new
data_node-requires-clause-new c = λ some.
    let b = c.args.block.now in
    let apart = c.names_differ.ensures b c.requires.sound in
    let n1 = c.port_nodes.new.net in
    let ids = c.in_ok-pins.pins.items in
    let laid = ports_laid n1 ids c.deref.result.now (ports b) (c.deref.ensures.value ∙ c.in_ok-ports.ensures)
    (record { seats = c.in_ok-pins.ensures.seats; inputs = c.in_ok-pins.ensures.inputs; outputs = c.in_ok-pins.ensures.outputs; others = c.in_ok-pins.ensures.others }) in
    let n2 = c.bus_front.new.net in
    let n3 = c.core.new.net in
    let first = keeps_first b n1 n2 c.port_nodes.ensures.registers c.in_ok-front.ensures.registers in
    let f = c.in_ok-front.front in
    let w = closes_waits b n2 f.closes c.in_ok-front.ensures.front.closing some in
    let new = kept_new b n1 ids apart laid Data (bus_kept b w).1 in
    let before = subst (λ ss. Lacks (seat_names ss) (codes "apb$data")) (sym c.in_ok-front.ensures.seats) new.seats in
    data_new b apart n3 w (taken_lacks (codes "apb$data") n2.seats n3.seats (map outlet_pin (outlets b)) (data_apart b apart w) c.in_ok-answer.ensures.seats before)
    (keeps_more b n2 n3 (bus_first b) (field_kept b) first c.in_ok-answer.ensures.registers)

pub bus_outputs-requires-clause-free_ready : goal.bus_outputs-requires-clause-free_ready
bus_outputs-requires-clause-free_ready c =
    let b = c.args.block.now in
    let apart = c.names_differ.ensures b c.requires.sound in
    let n1 = c.port_nodes.new.net in
    let ids = c.in_ok-pins.pins.items in
    let laid = ports_laid n1 ids c.deref.result.now (ports b) (c.deref.ensures.value ∙ c.in_ok-ports.ensures)
    (record { seats = c.in_ok-pins.ensures.seats; inputs = c.in_ok-pins.ensures.inputs; outputs = c.in_ok-pins.ensures.outputs; others = c.in_ok-pins.ensures.others }) in
    let n2 = c.bus_front.new.net in
    let n3 = c.core.new.net in
    let n4 = c.data_node.new.net in
    let first = keeps_first b n1 n2 c.port_nodes.ensures.registers c.in_ok-front.ensures.registers in
    let f = c.in_ok-front.front in
    let closing = c.in_ok-front.ensures.front.closing in
    let keeps = keeps_data b n3 n4 (bus_first b ++ field_kept b) f.closes (keeps_more b n2 n3 (bus_first b) (field_kept b) first c.in_ok-answer.ensures.registers) c.in_ok-shown.ensures.registers in
    let free = bus_free b apart n1 n2 n3 n4 (bus_first b ++ field_kept b ++ data_kept f.closes) c.in_ok-front.ensures.seats c.in_ok-answer.ensures.seats c.in_ok-shown.ensures.seats keeps (most_kept b n2 f.closes closing) laid.outputs in
    free.ready

pub bus_outputs-requires-clause-free_data : goal.bus_outputs-requires-clause-free_data
bus_outputs-requires-clause-free_data c =
    let b = c.args.block.now in
    let apart = c.names_differ.ensures b c.requires.sound in
    let n1 = c.port_nodes.new.net in
    let ids = c.in_ok-pins.pins.items in
    let laid = ports_laid n1 ids c.deref.result.now (ports b) (c.deref.ensures.value ∙ c.in_ok-ports.ensures)
    (record { seats = c.in_ok-pins.ensures.seats; inputs = c.in_ok-pins.ensures.inputs; outputs = c.in_ok-pins.ensures.outputs; others = c.in_ok-pins.ensures.others }) in
    let n2 = c.bus_front.new.net in
    let n3 = c.core.new.net in
    let n4 = c.data_node.new.net in
    let first = keeps_first b n1 n2 c.port_nodes.ensures.registers c.in_ok-front.ensures.registers in
    let f = c.in_ok-front.front in
    let closing = c.in_ok-front.ensures.front.closing in
    let keeps = keeps_data b n3 n4 (bus_first b ++ field_kept b) f.closes (keeps_more b n2 n3 (bus_first b) (field_kept b) first c.in_ok-answer.ensures.registers) c.in_ok-shown.ensures.registers in
    let free = bus_free b apart n1 n2 n3 n4 (bus_first b ++ field_kept b ++ data_kept f.closes) c.in_ok-front.ensures.seats c.in_ok-answer.ensures.seats c.in_ok-shown.ensures.seats keeps (most_kept b n2 f.closes closing) laid.outputs in
    free.answered

pub bus_outputs-requires-clause-free_error : goal.bus_outputs-requires-clause-free_error
bus_outputs-requires-clause-free_error c =
    let b = c.args.block.now in
    let apart = c.names_differ.ensures b c.requires.sound in
    let n1 = c.port_nodes.new.net in
    let ids = c.in_ok-pins.pins.items in
    let laid = ports_laid n1 ids c.deref.result.now (ports b) (c.deref.ensures.value ∙ c.in_ok-ports.ensures)
    (record { seats = c.in_ok-pins.ensures.seats; inputs = c.in_ok-pins.ensures.inputs; outputs = c.in_ok-pins.ensures.outputs; others = c.in_ok-pins.ensures.others }) in
    let n2 = c.bus_front.new.net in
    let n3 = c.core.new.net in
    let n4 = c.data_node.new.net in
    let first = keeps_first b n1 n2 c.port_nodes.ensures.registers c.in_ok-front.ensures.registers in
    let f = c.in_ok-front.front in
    let closing = c.in_ok-front.ensures.front.closing in
    let keeps = keeps_data b n3 n4 (bus_first b ++ field_kept b) f.closes (keeps_more b n2 n3 (bus_first b) (field_kept b) first c.in_ok-answer.ensures.registers) c.in_ok-shown.ensures.registers in
    let free = bus_free b apart n1 n2 n3 n4 (bus_first b ++ field_kept b ++ data_kept f.closes) c.in_ok-front.ensures.seats c.in_ok-answer.ensures.seats c.in_ok-shown.ensures.seats keeps (most_kept b n2 f.closes closing) laid.outputs in
    free.failed

pub returns-clause-built : goal.returns-clause-built
returns-clause-built c =
    let b = c.args.block.now in
    let n1 = c.port_nodes.new.net in
    let ids = c.in_ok-pins.pins.items in
    let laid = ports_laid n1 ids c.deref.result.now (ports b) (c.deref.ensures.value ∙ c.in_ok-ports.ensures)
    (record { seats = c.in_ok-pins.ensures.seats; inputs = c.in_ok-pins.ensures.inputs; outputs = c.in_ok-pins.ensures.outputs; others = c.in_ok-pins.ensures.others }) in
    built b c.port_nodes.new.net c.bus_front.new.net c.core.new.net c.data_node.new.net c.bus_outputs.new.net c.in_ok-front.front c.in_ok-answer.answer c.in_ok-shown.shown
    laid.seats c.port_nodes.ensures.registers (c.port_nodes.ensures.undriven ∙ c.requires.undriven)
    c.in_ok-front.ensures.seats c.in_ok-front.ensures.registers c.in_ok-front.ensures.undriven c.in_ok-front.ensures.front
    c.core.ensures.older c.in_ok-answer.ensures.seats c.in_ok-answer.ensures.registers c.in_ok-answer.ensures.undriven c.in_ok-answer.ensures.core
    c.in_ok-shown.ensures.older c.in_ok-shown.ensures.seats c.in_ok-shown.ensures.registers c.in_ok-shown.ensures.undriven c.in_ok-shown.ensures.shows
    c.in_ok-bus_outputs.ensures.older c.in_ok-bus_outputs.ensures.seats c.in_ok-bus_outputs.ensures.registers c.in_ok-bus_outputs.ensures.undriven c.in_ok-bus_outputs.ensures.shows
