use Rattle.std.proofs.Common.{◌==◌, ◌&&◌, if◌then◌else◌, sym, subst}
use Rattle.std.specs.Prelude.{is_some}
use Rattle.rtl_net.specs.Value.{bit_of}
use Rattle.rtl_net.specs.Net.{Stands}
use Rattle.rtl_net.proofs.Nets.{Grows-trans, IsNode-grows, Stands-grows, Stands-has}
use Rattle.rb_model.specs.Run.{word_at}
use Rattle.axi_model.specs.Channels.{writes}
use Rattle.gen_channels.specs.Nodes.{kept_seen, pins_seen}
use Rattle.gen_channels.specs.Slaves.{address_seen}
use Rattle.gen_channels.proofs.Answering.{parted_is, told_is, write_told}
use Rattle.gen_channels.proofs.Nexting.{chosen_is, raised_is}
use Rattle.gen_channels.proofs.answers.write_nexts.Goals as goal

pub written-requires : goal.written-requires
written-requires c = Stands-grows c.args.net.now c.response_bit.new.net c.args.slave.request.whole 1 c.response_bit.ensures.older c.requires.slave.request.whole.stands

pub response-requires-clause-hit : goal.response-requires-clause-hit
response-requires-clause-hit c =
    let n0 = c.args.net.now in
    let n1 = c.response_bit.new.net in
    let n2 = c.written.new.net in
    Stands-grows n0 n2 c.args.slave.request.hit 1 (Grows-trans n0 n1 n2 c.response_bit.ensures.older c.written.ensures.older) c.requires.slave.request.hit.stands

pub response-requires-clause-there : goal.response-requires-clause-there
response-requires-clause-there c = c.in_ok-there.ensures.written.stands

pub choose-requires-clause-c_stands : goal.choose-requires-clause-c_stands
choose-requires-clause-c_stands c =
    let n0 = c.args.net.now in
    let n1 = c.response_bit.new.net in
    let n2 = c.written.new.net in
    let n3 = c.response.new.net in
    Stands-grows n0 n3 c.args.slave.acts.writes 1 (Grows-trans n0 n2 n3 (Grows-trans n0 n1 n2 c.response_bit.ensures.older c.written.ensures.older) c.response.ensures.older) c.requires.slave.acts.writing.stands

pub choose-requires-clause-a_stands : goal.choose-requires-clause-a_stands
choose-requires-clause-a_stands c = Stands-has c.response.new.net c.in_ok-answer.answer 2 c.in_ok-answer.ensures.response.stands

pub choose-requires-clause-b_stands : goal.choose-requires-clause-b_stands
choose-requires-clause-b_stands c =
    let n0 = c.args.net.now in
    let n1 = c.response_bit.new.net in
    let n2 = c.written.new.net in
    let n3 = c.response.new.net in
    let k = c.args.slave.kept in
    subst (Stands n3 k.bresp) (sym c.in_ok-answer.ensures.response.stands.width)
    (Stands-grows n0 n3 k.bresp 2 (Grows-trans n0 n2 n3 (Grows-trans n0 n1 n2 c.response_bit.ensures.older c.written.ensures.older) c.response.ensures.older) c.requires.slave.kept.bresp.stands)

pub returns-clause-b : goal.returns-clause-b
returns-clause-b c =
    let n0 = c.args.net.now in
    let n1 = c.response_bit.new.net in
    let n2 = c.written.new.net in
    let n3 = c.response.new.net in
    let n4 = c.choose.new.net in
    let g14 = Grows-trans n1 n3 n4 (Grows-trans n1 n2 n3 c.written.ensures.older c.response.ensures.older) c.choose.ensures.older in
    IsNode-grows n1 n4 c.in_ok-b.b 1 (λ v. if writes (pins_seen v) (kept_seen v) then 1 else (if (kept_seen v).b == 1 && (pins_seen v).bready == 1 then 0 else (kept_seen v).b)) g14
    (raised_is n0 n1 c.args.slave.acts.writes c.args.slave.kept.b c.args.slave.pins.bready c.in_ok-b.b (λ v. writes (pins_seen v) (kept_seen v)) (λ v. (kept_seen v).b) (λ v. (pins_seen v).bready)
    c.response_bit.ensures.older c.in_ok-b.ensures.bit c.requires.slave.acts.writing c.requires.slave.kept.b c.requires.slave.pins.bready)

pub returns-clause-bresp : goal.returns-clause-bresp
returns-clause-bresp c =
    let b = c.args.block.now in
    let n0 = c.args.net.now in
    let n1 = c.response_bit.new.net in
    let n2 = c.written.new.net in
    let n3 = c.response.new.net in
    let n4 = c.choose.new.net in
    let s = c.args.slave in
    let g01 = c.response_bit.ensures.older in
    let g02 = Grows-trans n0 n1 n2 g01 c.written.ensures.older in
    let g03 = Grows-trans n0 n2 n3 g02 c.response.ensures.older in
    let whole = IsNode-grows n0 n1 s.request.whole 1 (λ v. bit_of ((kept_seen v).wstrb == 15)) g01 c.requires.slave.request.whole in
    let parted = parted_is n1 n2 s.request.whole c.in_ok-there.there (λ v. (kept_seen v).wstrb == 15) c.written.ensures.older c.in_ok-there.ensures.written whole in
    let hit = IsNode-grows n0 n2 s.request.hit 1 (λ v. bit_of (is_some (word_at b.reads (address_seen v)))) g02 c.requires.slave.request.hit in
    let told = told_is n2 n3 s.request.hit c.in_ok-there.there c.in_ok-answer.answer (λ v. is_some (word_at b.reads (address_seen v))) (λ v. if (kept_seen v).wstrb == 15 then 0 else 2) c.response.ensures.older c.in_ok-answer.ensures.response hit parted in
    write_told b c.requires.sound n4 c.in_ok-bresp.bresp
    (chosen_is n3 n4 s.acts.writes c.in_ok-answer.answer s.kept.bresp c.in_ok-bresp.bresp 2 _ (λ v. writes (pins_seen v) (kept_seen v)) (λ v. if is_some (word_at b.reads (address_seen v)) then (if (kept_seen v).wstrb == 15 then 0 else 2) else 3) (λ v. (kept_seen v).bresp)
    c.choose.ensures.older told.stands.width c.in_ok-bresp.ensures.node
    (IsNode-grows n0 n3 s.acts.writes 1 (λ v. bit_of (writes (pins_seen v) (kept_seen v))) g03 c.requires.slave.acts.writing) told (IsNode-grows n0 n3 s.kept.bresp 2 (λ v. (kept_seen v).bresp) g03 c.requires.slave.kept.bresp))
