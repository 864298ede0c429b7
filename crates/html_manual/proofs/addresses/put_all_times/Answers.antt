use Rattle.std.proofs.Common.{get_or}
use Rattle.html_text.specs.Writing.{at}
use Rattle.html_text.proofs.Each.{last, more}
use Rattle.html_text.proofs.Wrote.{nothing, of_bytes, wrote}
use Rattle.plain_lemmas.proofs.Lists.{get-at}
use Rattle.manual_sections.specs.Sections.{times}
use Rattle.html_manual.proofs.addresses.put_all_times.Goals as goal

pub loop-count-init : goal.loop-count-init
loop-count-init g c = nothing (at (g.K.Sink.told c.args.out.now) (g.K.Sink.faults c.args.out.now) c.args.pen.now)

pub loop-count-preserved : goal.loop-count-preserved
loop-count-preserved g c =
    let items = c.args.counts.now in
    let k = c.loop-count.count-index in
    of_bytes (more times items k (get_or items k 0) (get-at items k 0 c.loop-count-test.true)) (wrote c.loop-count.invariant c.put_times.ensures)

pub returns : goal.returns
returns g c = of_bytes (last times c.args.counts.now c.loop-count.count-index c.loop-count-test.false) c.loop-count.invariant
