use Rattle.std.proofs.Common.{◌++◌, sym, ap, ◌∙◌, subst}
use Rattle.rtl_net.proofs.Nets.{Extends-trans}
use Rattle.rb_model.specs.Front.{front_inputs}
use Rattle.axi_model.specs.Axi.{axi}
use Rattle.axi_model.specs.Ports.{axi_ports}
use Rattle.gen_scene.specs.Bases.{HasPins}
use Rattle.gen_scene.proofs.Worths.{HasPins-extends}
use Rattle.gen_ports.specs.Laid.{AreInputs, CanLay}
use Rattle.gen_channels.proofs.Growing.{slave-extends}
use Rattle.gen_front.proofs.Ports.{ports_laid}
use Rattle.axi_lite.specs.Tables.{own_registers}
use Rattle.axi_lite.proofs.Names.{can_add, can_lay}
use Rattle.axi_lite.proofs.Parts.{built, can_show, data_new, field_new, outlet_free}
use Rattle.axi_lite.proofs.Tying.{resetn-extends}
use Rattle.axi_lite.proofs.assembly.build.Goals as goal

pub port_nodes-requires-clause-ports : goal.port_nodes-requires-clause-ports
port_nodes-requires-clause-ports c = subst CanLay (sym (c.deref.ensures.value ∙ c.in_ok-ports.ensures)) (can_lay c.args.block.now c.requires.sound)

pub channel_pins-pins-requires : goal.channel_pins-pins-requires
channel_pins-pins-requires c =
    let b = c.args.block.now in
    let n1 = c.port_nodes.new.net in
    let ids = c.in_ok-ids.ids.items in
    let laid = ports_laid n1 ids c.deref.result.now (axi_ports b) (c.deref.ensures.value ∙ c.in_ok-ports.ensures)
    (record { seats = c.in_ok-ids.ensures.seats; inputs = c.in_ok-ids.ensures.inputs; outputs = c.in_ok-ids.ensures.outputs; others = c.in_ok-ids.ensures.others }) in
    (n1, subst (λ xs. AreInputs n1 xs (front_inputs (axi b))) (sym c.deref-2.ensures.value) laid.inputs)

pub slave_port-requires-clause-pins : goal.slave_port-requires-clause-pins
slave_port-requires-clause-pins c =
    let b = c.args.block.now in
    let n1 = c.port_nodes.new.net in
    let ids = c.in_ok-ids.ids.items in
    let laid = ports_laid n1 ids c.deref.result.now (axi_ports b) (c.deref.ensures.value ∙ c.in_ok-ports.ensures)
    (record { seats = c.in_ok-ids.ensures.seats; inputs = c.in_ok-ids.ensures.inputs; outputs = c.in_ok-ids.ensures.outputs; others = c.in_ok-ids.ensures.others }) in
    c.channel_pins-pins.ensures.pins n1 (subst (λ xs. AreInputs n1 xs (front_inputs (axi b))) (sym c.deref-2.ensures.value) laid.inputs)

pub slave_port-requires-clause-resetn : goal.slave_port-requires-clause-resetn
slave_port-requires-clause-resetn c =
    let b = c.args.block.now in
    let n1 = c.port_nodes.new.net in
    let ids = c.in_ok-ids.ids.items in
    let laid = ports_laid n1 ids c.deref.result.now (axi_ports b) (c.deref.ensures.value ∙ c.in_ok-ports.ensures)
    (record { seats = c.in_ok-ids.ensures.seats; inputs = c.in_ok-ids.ensures.inputs; outputs = c.in_ok-ids.ensures.outputs; others = c.in_ok-ids.ensures.others }) in
    c.channel_pins-pins.ensures.resetn n1 (subst (λ xs. AreInputs n1 xs (front_inputs (axi b))) (sym c.deref-2.ensures.value) laid.inputs)

pub slave_port-requires-clause-new : goal.slave_port-requires-clause-new
slave_port-requires-clause-new c =
    let b = c.args.block.now in
    let n1 = c.port_nodes.new.net in
    let ids = c.in_ok-ids.ids.items in
    let laid = ports_laid n1 ids c.deref.result.now (axi_ports b) (c.deref.ensures.value ∙ c.in_ok-ports.ensures)
    (record { seats = c.in_ok-ids.ensures.seats; inputs = c.in_ok-ids.ensures.inputs; outputs = c.in_ok-ids.ensures.outputs; others = c.in_ok-ids.ensures.others }) in
    can_add b c.requires.sound n1 laid.others

pub core_pins-requires-clause-pins : goal.core_pins-requires-clause-pins
core_pins-requires-clause-pins c =
    let b = c.args.block.now in
    let n1 = c.port_nodes.new.net in
    let ids = c.in_ok-ids.ids.items in
    let laid = ports_laid n1 ids c.deref.result.now (axi_ports b) (c.deref.ensures.value ∙ c.in_ok-ports.ensures)
    (record { seats = c.in_ok-ids.ensures.seats; inputs = c.in_ok-ids.ensures.inputs; outputs = c.in_ok-ids.ensures.outputs; others = c.in_ok-ids.ensures.others }) in
    (n1, subst (λ xs. AreInputs n1 xs (front_inputs (axi b))) (sym c.deref-3.ensures.value) laid.inputs)

pub core-requires-clause-clock : goal.core-requires-clause-clock
core-requires-clause-clock c = c.in_ok-slave.ensures.older.clock c.in_ok-ids.ensures.clock

pub core-requires-clause-pins : goal.core-requires-clause-pins
core-requires-clause-pins c =
    let b = c.args.block.now in
    let n1 = c.port_nodes.new.net in
    let ids = c.in_ok-ids.ids.items in
    let laid = ports_laid n1 ids c.deref.result.now (axi_ports b) (c.deref.ensures.value ∙ c.in_ok-ports.ensures)
    (record { seats = c.in_ok-ids.ensures.seats; inputs = c.in_ok-ids.ensures.inputs; outputs = c.in_ok-ids.ensures.outputs; others = c.in_ok-ids.ensures.others }) in
    let pins = c.in_ok-inner.ensures n1 (subst (λ xs. AreInputs n1 xs (front_inputs (axi b))) (sym c.deref-3.ensures.value) laid.inputs) in
    HasPins-extends n1 c.slave_port.new.net c.in_ok-slave.ensures.older b c.deref-4.result.now (subst (λ xs. HasPins b n1 xs) (sym c.deref-4.ensures.value) pins)

pub core-requires-clause-inlet : goal.core-requires-clause-inlet
core-requires-clause-inlet c = c.in_ok-slave.ensures.slave.request.says.inlet

pub core-requires-clause-registers : goal.core-requires-clause-registers
core-requires-clause-registers c = λ k h.
    let b = c.args.block.now in
    let n1 = c.port_nodes.new.net in
    let ids = c.in_ok-ids.ids.items in
    let laid = ports_laid n1 ids c.deref.result.now (axi_ports b) (c.deref.ensures.value ∙ c.in_ok-ports.ensures)
    (record { seats = c.in_ok-ids.ensures.seats; inputs = c.in_ok-ids.ensures.inputs; outputs = c.in_ok-ids.ensures.outputs; others = c.in_ok-ids.ensures.others }) in
    let n2 = c.slave_port.new.net in
    let seats = c.in_ok-slave.ensures.seats in
    let registers = c.in_ok-slave.ensures.registers ∙ ap (λ rs. rs ++ own_registers) c.port_nodes.ensures.registers in
    field_new b c.requires.sound n1 n2 ids laid seats registers k h

pub core-requires-clause-outputs : goal.core-requires-clause-outputs
core-requires-clause-outputs c = λ o h.
    let b = c.args.block.now in
    let n1 = c.port_nodes.new.net in
    let ids = c.in_ok-ids.ids.items in
    let laid = ports_laid n1 ids c.deref.result.now (axi_ports b) (c.deref.ensures.value ∙ c.in_ok-ports.ensures)
    (record { seats = c.in_ok-ids.ensures.seats; inputs = c.in_ok-ids.ensures.inputs; outputs = c.in_ok-ids.ensures.outputs; others = c.in_ok-ids.ensures.others }) in
    let n2 = c.slave_port.new.net in
    let seats = c.in_ok-slave.ensures.seats in
    let registers = c.in_ok-slave.ensures.registers ∙ ap (λ rs. rs ++ own_registers) c.port_nodes.ensures.registers in
    outlet_free b c.requires.sound n1 n2 ids laid seats registers o h

pub read_data-requires-clause-clock : goal.read_data-requires-clause-clock
read_data-requires-clause-clock c = c.core.ensures.older.clock (c.in_ok-slave.ensures.older.clock c.in_ok-ids.ensures.clock)

pub read_data-requires-clause-slave : goal.read_data-requires-clause-slave
read_data-requires-clause-slave c = slave-extends c.slave_port.new.net c.core.new.net c.core.ensures.older c.args.block.now c.in_ok-slave.slave c.in_ok-slave.ensures.slave

pub read_data-requires-clause-resetn : goal.read_data-requires-clause-resetn
read_data-requires-clause-resetn c =
    let b = c.args.block.now in
    let n1 = c.port_nodes.new.net in
    let ids = c.in_ok-ids.ids.items in
    let laid = ports_laid n1 ids c.deref.result.now (axi_ports b) (c.deref.ensures.value ∙ c.in_ok-ports.ensures)
    (record { seats = c.in_ok-ids.ensures.seats; inputs = c.in_ok-ids.ensures.inputs; outputs = c.in_ok-ids.ensures.outputs; others = c.in_ok-ids.ensures.others }) in
    resetn-extends n1 c.core.new.net c.channel_pins-pins.result.resetn (Extends-trans n1 c.slave_port.new.net c.core.new.net c.in_ok-slave.ensures.older c.core.ensures.older)
    (c.channel_pins-pins.ensures.resetn n1 (subst (λ xs. AreInputs n1 xs (front_inputs (axi b))) (sym c.deref-2.ensures.value) laid.inputs))

pub read_data-requires-clause-answer : goal.read_data-requires-clause-answer
read_data-requires-clause-answer c = c.in_ok-answer.ensures.core.answered.stands

pub read_data-requires-clause-new : goal.read_data-requires-clause-new
read_data-requires-clause-new c =
    let b = c.args.block.now in
    let n1 = c.port_nodes.new.net in
    let ids = c.in_ok-ids.ids.items in
    let laid = ports_laid n1 ids c.deref.result.now (axi_ports b) (c.deref.ensures.value ∙ c.in_ok-ports.ensures)
    (record { seats = c.in_ok-ids.ensures.seats; inputs = c.in_ok-ids.ensures.inputs; outputs = c.in_ok-ids.ensures.outputs; others = c.in_ok-ids.ensures.others }) in
    let n2 = c.slave_port.new.net in
    let seats = c.in_ok-slave.ensures.seats in
    let registers = c.in_ok-slave.ensures.registers ∙ ap (λ rs. rs ++ own_registers) c.port_nodes.ensures.registers in
    data_new b c.requires.sound n1 n2 ids laid seats registers c.core.new.net c.in_ok-answer.ensures.seats c.in_ok-answer.ensures.registers

pub shown-requires-clause-slave : goal.shown-requires-clause-slave
shown-requires-clause-slave c =
    let n2 = c.slave_port.new.net in
    let n3 = c.core.new.net in
    let n4 = c.read_data.new.net in
    slave-extends n2 n4 (Extends-trans n2 n3 n4 c.core.ensures.older c.in_ok-rdata.ensures.older) c.args.block.now c.in_ok-slave.slave c.in_ok-slave.ensures.slave

pub shown-requires-clause-free : goal.shown-requires-clause-free
shown-requires-clause-free c =
    let b = c.args.block.now in
    let n1 = c.port_nodes.new.net in
    let ids = c.in_ok-ids.ids.items in
    let laid = ports_laid n1 ids c.deref.result.now (axi_ports b) (c.deref.ensures.value ∙ c.in_ok-ports.ensures)
    (record { seats = c.in_ok-ids.ensures.seats; inputs = c.in_ok-ids.ensures.inputs; outputs = c.in_ok-ids.ensures.outputs; others = c.in_ok-ids.ensures.others }) in
    let n2 = c.slave_port.new.net in
    let seats = c.in_ok-slave.ensures.seats in
    let registers = c.in_ok-slave.ensures.registers ∙ ap (λ rs. rs ++ own_registers) c.port_nodes.ensures.registers in
    can_show b c.requires.sound n1 n2 ids laid seats registers c.core.new.net c.in_ok-answer.ensures.seats c.in_ok-answer.ensures.registers c.read_data.new.net c.in_ok-rdata.ensures.seats c.in_ok-rdata.ensures.registers

pub returns-clause-built : goal.returns-clause-built
returns-clause-built c =
    let b = c.args.block.now in
    let n1 = c.port_nodes.new.net in
    let ids = c.in_ok-ids.ids.items in
    let laid = ports_laid n1 ids c.deref.result.now (axi_ports b) (c.deref.ensures.value ∙ c.in_ok-ports.ensures)
    (record { seats = c.in_ok-ids.ensures.seats; inputs = c.in_ok-ids.ensures.inputs; outputs = c.in_ok-ids.ensures.outputs; others = c.in_ok-ids.ensures.others }) in
    let n2 = c.slave_port.new.net in
    let seats = c.in_ok-slave.ensures.seats in
    let registers = c.in_ok-slave.ensures.registers ∙ ap (λ rs. rs ++ own_registers) c.port_nodes.ensures.registers in
    built b n1 n2 c.core.new.net c.read_data.new.net c.shown.new.net c.in_ok-slave.slave c.in_ok-answer.answer laid.seats (c.port_nodes.ensures.undriven ∙ c.requires.undriven)
    seats registers c.in_ok-slave.ensures.undriven c.in_ok-slave.ensures.slave c.in_ok-slave.ensures.keeps
    c.core.ensures.older c.in_ok-answer.ensures.seats c.in_ok-answer.ensures.registers c.in_ok-answer.ensures.undriven c.in_ok-answer.ensures.core
    c.in_ok-rdata.ensures.older c.in_ok-rdata.ensures.seats c.in_ok-rdata.ensures.registers c.in_ok-rdata.ensures.undriven c.in_ok-rdata.ensures.keeps
    c.shown.ensures.older c.in_ok-shown.ensures.seats c.in_ok-shown.ensures.registers c.in_ok-shown.ensures.undriven c.in_ok-shown.ensures.shows
