use Rattle.std.proofs.Common.{◌==◌, ◌&&◌, if◌then◌else◌, sym, subst}
use Rattle.std.specs.Prelude.{is_some}
use Rattle.rtl_net.specs.Value.{bit_of}
use Rattle.rtl_net.specs.Net.{Stands}
use Rattle.rtl_net.proofs.Nets.{Grows-trans, IsNode-grows, Stands-grows, Stands-has}
use Rattle.rb_model.specs.Run.{word_at}
use Rattle.axi_model.specs.Channels.{reads}
use Rattle.gen_channels.specs.Nodes.{kept_seen, pins_seen}
use Rattle.gen_channels.specs.Slaves.{address_seen}
use Rattle.gen_channels.proofs.Answering.{read_told, told_is}
use Rattle.gen_channels.proofs.Nexting.{chosen_is, raised_is}
use Rattle.gen_channels.proofs.answers.read_nexts.Goals as goal

pub response-requires-clause-hit : goal.response-requires-clause-hit
response-requires-clause-hit c =
    let n0 = c.args.net.now in
    let n1 = c.response_bit.new.net in
    let n2 = c.zero.new.net in
    Stands-grows n0 n2 c.args.slave.request.hit 1 (Grows-trans n0 n1 n2 c.response_bit.ensures.older c.zero.ensures.older) c.requires.request.hit.stands

pub response-requires-clause-there : goal.response-requires-clause-there
response-requires-clause-there c = c.in_ok-fine.ensures.node.stands

pub choose-requires-clause-c_stands : goal.choose-requires-clause-c_stands
choose-requires-clause-c_stands c =
    let n0 = c.args.net.now in
    let n1 = c.response_bit.new.net in
    let n2 = c.zero.new.net in
    let n3 = c.response.new.net in
    Stands-grows n0 n3 c.args.slave.acts.reads 1 (Grows-trans n0 n2 n3 (Grows-trans n0 n1 n2 c.response_bit.ensures.older c.zero.ensures.older) c.response.ensures.older) c.requires.acts.reading.stands

pub choose-requires-clause-a_stands : goal.choose-requires-clause-a_stands
choose-requires-clause-a_stands c = Stands-has c.response.new.net c.in_ok-told.told 2 c.in_ok-told.ensures.response.stands

pub choose-requires-clause-b_stands : goal.choose-requires-clause-b_stands
choose-requires-clause-b_stands c =
    let n0 = c.args.net.now in
    let n1 = c.response_bit.new.net in
    let n2 = c.zero.new.net in
    let n3 = c.response.new.net in
    subst (Stands n3 c.args.slave.kept.rresp) (sym c.in_ok-told.ensures.response.stands.width)
    (Stands-grows n0 n3 c.args.slave.kept.rresp 2 (Grows-trans n0 n2 n3 (Grows-trans n0 n1 n2 c.response_bit.ensures.older c.zero.ensures.older) c.response.ensures.older) c.requires.kept.rresp.stands)

pub returns-clause-r : goal.returns-clause-r
returns-clause-r c =
    let n0 = c.args.net.now in
    let n1 = c.response_bit.new.net in
    let n2 = c.zero.new.net in
    let n3 = c.response.new.net in
    let n4 = c.choose.new.net in
    let g14 = Grows-trans n1 n3 n4 (Grows-trans n1 n2 n3 c.zero.ensures.older c.response.ensures.older) c.choose.ensures.older in
    IsNode-grows n1 n4 c.in_ok-r.r 1 (λ v. if reads (pins_seen v) (kept_seen v) then 1 else (if (kept_seen v).r == 1 && (pins_seen v).rready == 1 then 0 else (kept_seen v).r)) g14
    (raised_is n0 n1 c.args.slave.acts.reads c.args.slave.kept.r c.args.slave.pins.rready c.in_ok-r.r (λ v. reads (pins_seen v) (kept_seen v)) (λ v. (kept_seen v).r) (λ v. (pins_seen v).rready)
    c.response_bit.ensures.older c.in_ok-r.ensures.bit c.requires.acts.reading c.requires.kept.r c.requires.pins.rready)

pub returns-clause-rresp : goal.returns-clause-rresp
returns-clause-rresp c =
    let b = c.args.block.now in
    let n0 = c.args.net.now in
    let n1 = c.response_bit.new.net in
    let n2 = c.zero.new.net in
    let n3 = c.response.new.net in
    let n4 = c.choose.new.net in
    let s = c.args.slave in
    let g02 = Grows-trans n0 n1 n2 c.response_bit.ensures.older c.zero.ensures.older in
    let g03 = Grows-trans n0 n2 n3 g02 c.response.ensures.older in
    let hit = IsNode-grows n0 n2 s.request.hit 1 (λ v. bit_of (is_some (word_at b.reads (address_seen v)))) g02 c.requires.request.hit in
    let told = told_is n2 n3 s.request.hit c.in_ok-fine.fine c.in_ok-told.told (λ v. is_some (word_at b.reads (address_seen v))) (λ v. 0) c.response.ensures.older c.in_ok-told.ensures.response hit c.in_ok-fine.ensures.node in
    read_told b n4 c.in_ok-rresp.rresp
    (chosen_is n3 n4 s.acts.reads c.in_ok-told.told s.kept.rresp c.in_ok-rresp.rresp 2 _ (λ v. reads (pins_seen v) (kept_seen v)) (λ v. if is_some (word_at b.reads (address_seen v)) then 0 else 3) (λ v. (kept_seen v).rresp)
    c.choose.ensures.older told.stands.width c.in_ok-rresp.ensures.node
    (IsNode-grows n0 n3 s.acts.reads 1 (λ v. bit_of (reads (pins_seen v) (kept_seen v))) g03 c.requires.acts.reading) told (IsNode-grows n0 n3 s.kept.rresp 2 (λ v. (kept_seen v).rresp) g03 c.requires.kept.rresp))
