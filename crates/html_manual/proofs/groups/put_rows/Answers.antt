use Rattle.html_text.specs.Writing.{at}
use Rattle.html_text.proofs.Each.{last, more, read}
use Rattle.html_text.proofs.Wrote.{nothing, of_bytes, wrote}
use Rattle.html_manual.specs.Groups.{group_row}
use Rattle.html_manual.proofs.groups.put_rows.Goals as goal

pub loop-group-init : goal.loop-group-init
loop-group-init g c = nothing (at (g.K.Sink.told c.args.out.now) (g.K.Sink.faults c.args.out.now) c.args.pen.now)

pub loop-group-preserved : goal.loop-group-preserved
loop-group-preserved g c =
    let items = c.args.groups.now in
    let k = c.loop-group.group-index in
    let item = c.group-item.result in
    of_bytes (more (group_row c.args.sight.now) items k item (read items k item c.loop-group-test.true c.group-item.is)) (wrote c.loop-group.invariant c.put_group.ensures)

pub returns : goal.returns
returns g c = of_bytes (last (group_row c.args.sight.now) c.args.groups.now c.loop-group.group-index c.loop-group-test.false) c.loop-group.invariant
