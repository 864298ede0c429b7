use Rattle.std.proofs.Common.{◌==◌, codes, if◌then◌else◌, refl, ap, ◌∙◌, arith}
use Rattle.rtl_net.proofs.Nets.{Extends-grows, Extends-trans, IsNode-extends, Stands-extends}
use Rattle.gen_ports.specs.Registers.{by_resetn}
use Rattle.gen_channels.specs.Nodes.{kept_seen}
use Rattle.gen_channels.proofs.Growing.{slave-extends}
use Rattle.axi_lite.proofs.Placing.{kept_node}
use Rattle.axi_lite.proofs.Tying.{data_from, resetn-extends}
use Rattle.axi_lite.proofs.tied.read_data.Goals as goal

pub register-requires-clause-reset : goal.register-requires-clause-reset
register-requires-clause-reset c = (codes "PRESETn", c.requires.resetn.input, refl, omega arith)

pub read_data_node-requires-clause-slave : goal.read_data_node-requires-clause-slave
read_data_node-requires-clause-slave c = slave-extends c.args.net.now c.register.new.self c.register.ensures.older c.args.block.now c.args.slave c.requires.slave

pub read_data_node-requires-clause-answer : goal.read_data_node-requires-clause-answer
read_data_node-requires-clause-answer c = Stands-extends c.args.net.now c.register.new.self c.args.answer 32 c.register.ensures.older c.requires.answer

pub read_data_node-requires-clause-kept : goal.read_data_node-requires-clause-kept
read_data_node-requires-clause-kept c =
    let n1 = c.register.new.self in
    let node = c.in_ok-rdata.ensures.node in
    kept_node n1 c.in_ok-rdata.rdata 32 (codes "axi$rdata") (λ k. k.rdata) refl (λ k. refl)
    (record { stands = node.stands; value = λ v s. node.value v s ∙ ap (λ x. if x == 0 then 0 else v.kept (codes "axi$rdata")) (c.requires.resetn.node.value v (c.register.ensures.older.settles v s)) })

pub returns-clause-rdata : goal.returns-clause-rdata
returns-clause-rdata c =
    let n0 = c.args.net.now in
    let n1 = c.register.new.self in
    let n2 = c.read_data_node.new.net in
    let n3 = c.drive.new.self in
    let node = c.in_ok-rdata.ensures.node in
    let x13 = Extends-trans n1 n2 n3 (Extends-grows n1 n2 c.read_data_node.ensures.older) c.drive.ensures.older in
    IsNode-extends n1 n3 c.in_ok-rdata.rdata 32 (λ v. (kept_seen v).rdata) x13
    (kept_node n1 c.in_ok-rdata.rdata 32 (codes "axi$rdata") (λ k. k.rdata) refl (λ k. refl)
    (record { stands = node.stands; value = λ v s. node.value v s ∙ ap (λ x. if x == 0 then 0 else v.kept (codes "axi$rdata")) (c.requires.resetn.node.value v (c.register.ensures.older.settles v s)) }))

pub returns-clause-keeps : goal.returns-clause-keeps
returns-clause-keeps c =
    let n0 = c.args.net.now in
    let n1 = c.register.new.self in
    let n2 = c.read_data_node.new.net in
    let n3 = c.drive.new.self in
    let awaits = c.read_data_node.ensures.older.awaits c.in_ok-rdata.rdata _ 32 _ c.in_ok-rdata.ensures.register in
    data_from c.args.block.now n2 n3 c.args.answer c.in_ok-next.next c.args.resetn c.drive.ensures.older c.in_ok-next.ensures.next
    (resetn-extends n0 n2 c.args.resetn (Extends-trans n0 n1 n2 c.register.ensures.older (Extends-grows n1 n2 c.read_data_node.ensures.older)) c.requires.resetn)
    (c.drive.ensures.driven _ 32 _ awaits)

pub drive-requires : goal.drive-requires
drive-requires c = record {
  name = codes "axi$rdata";
  width = 32;
  reset = by_resetn c.args.resetn;
  awaits = c.read_data_node.ensures.older.awaits c.in_ok-rdata.rdata (codes "axi$rdata") 32 (by_resetn c.args.resetn) c.in_ok-rdata.ensures.register;
  stands = c.in_ok-next.ensures.next.stands;
}

pub returns-clause-older : goal.returns-clause-older
returns-clause-older c =
    let n0 = c.args.net.now in
    let n1 = c.register.new.self in
    let n2 = c.read_data_node.new.net in
    let n3 = c.drive.new.self in
    Extends-trans n0 n1 n3 c.register.ensures.older (Extends-trans n1 n2 n3 (Extends-grows n1 n2 c.read_data_node.ensures.older) c.drive.ensures.older)
