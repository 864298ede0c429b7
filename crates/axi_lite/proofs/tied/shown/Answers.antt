use Rattle.std.proofs.Common.{sym, subst, refl, ap, ◌∙◌}
use Rattle.rtl_net.proofs.Nets.{Extends-grows, Extends-trans, IsNode-grows}
use Rattle.gen_ports.specs.Registers.{HaveWidths}
use Rattle.gen_ports.specs.Shows.{CanShow, ShowNodes, shown_seats}
use Rattle.gen_channels.specs.Nodes.{kept_seen}
use Rattle.gen_channels.proofs.Growing.{slave-grows}
use Rattle.axi_lite.specs.Tables.{own_outputs}
use Rattle.axi_lite.proofs.Tying.{can_show-grows, shown_in_order, shown_wide, shows_from, taken_from}
use Rattle.axi_lite.proofs.tied.shown.Goals as goal

pub show_in_turn-requires-clause-rows : goal.show_in_turn-requires-clause-rows
show_in_turn-requires-clause-rows c = subst (CanShow c.ready_nodes.new.net) (sym c.output_table.ensures) (can_show-grows c.args.net.now c.ready_nodes.new.net c.ready_nodes.ensures.older c.requires.free)

pub show_in_turn-requires-clause-nodes : goal.show_in_turn-requires-clause-nodes
show_in_turn-requires-clause-nodes c =
    let n0 = c.args.net.now in
    let n1 = c.ready_nodes.new.net in
    let g = c.ready_nodes.ensures.older in
    subst (λ ps. HaveWidths n1 ps (shown_in_order c.args.slave c.in_ok-ready.ready c.args.rdata)) (sym c.output_table.ensures)
    (shown_wide c.args.block.now n1 c.args.slave c.in_ok-ready.ready c.args.rdata (shown_in_order c.args.slave c.in_ok-ready.ready c.args.rdata) refl (slave-grows c.args.block.now n0 n1 c.args.slave g c.requires.slave) c.in_ok-ready.ensures.ready
    (IsNode-grows n0 n1 c.args.rdata 32 (λ v. (kept_seen v).rdata) g c.requires.rdata))

pub returns-clause-seats : goal.returns-clause-seats
returns-clause-seats c =
    let n0 = c.args.net.now in
    let n1 = c.ready_nodes.new.net in
    let n2 = c.show_in_turn.new.net in
    let ids = shown_in_order c.args.slave c.in_ok-ready.ready c.args.rdata in
    taken_from own_outputs ids n0.seats n2.seats refl
    (c.in_ok-show_in_turn.ensures.seats ∙ ap (λ ps. shown_seats n1.seats ps ids) c.output_table.ensures ∙ ap (λ ss. shown_seats ss own_outputs ids) c.ready_nodes.ensures.older.seats)

pub returns-clause-shows : goal.returns-clause-shows
returns-clause-shows c =
    let n0 = c.args.net.now in
    let n1 = c.ready_nodes.new.net in
    let n2 = c.show_in_turn.new.net in
    let g = c.ready_nodes.ensures.older in
    let ids = shown_in_order c.args.slave c.in_ok-ready.ready c.args.rdata in
    shows_from c.args.block.now n1 n2 c.args.slave c.in_ok-ready.ready c.args.rdata ids refl c.show_in_turn.ensures.older (slave-grows c.args.block.now n0 n1 c.args.slave g c.requires.slave) c.in_ok-ready.ensures.ready
    (IsNode-grows n0 n1 c.args.rdata 32 (λ v. (kept_seen v).rdata) g c.requires.rdata) (subst (λ ps. ShowNodes n2 ps ids) c.output_table.ensures c.in_ok-show_in_turn.ensures.shown)

pub returns-clause-older : goal.returns-clause-older
returns-clause-older c =
    Extends-trans c.args.net.now c.ready_nodes.new.net c.show_in_turn.new.net (Extends-grows c.args.net.now c.ready_nodes.new.net c.ready_nodes.ensures.older) c.show_in_turn.ensures.older

pub returns-in_err-show_in_turn-clause-older : goal.returns-in_err-show_in_turn-clause-older
returns-in_err-show_in_turn-clause-older c =
    Extends-trans c.args.net.now c.ready_nodes.new.net c.show_in_turn.new.net (Extends-grows c.args.net.now c.ready_nodes.new.net c.ready_nodes.ensures.older) c.show_in_turn.ensures.older
