use Rattle.std.specs.List.{enumerate_from}
use Rattle.std.proofs.Common.{arith, map}
use Rattle.html_text.specs.Writing.{at}
use Rattle.html_text.proofs.Wrote.{nothing, of_bytes, wrote}
use Rattle.html_text.proofs.Each.{last, more, numbered, numbered_length, read}
use Rattle.html_manual.specs.Enumerations.{enumeration_section}
use Rattle.html_manual.proofs.enumerations.put_each.Goals as goal

pub loop-at-init : goal.loop-at-init
loop-at-init g c = nothing (at (g.K.Sink.told c.args.out.now) (g.K.Sink.faults c.args.out.now) c.args.pen.now)

pub loop-at-preserved : goal.loop-at-preserved
loop-at-preserved g c =
    let items = c.args.list.now in
    let k = c.loop-at.at in
    let item = c.index-list-at.result in
    of_bytes (more (enumeration_section c.args.sight.now (map (λ v. v.items) c.args.notes.now)) (enumerate_from 0 items) k (k, item) (numbered items k item (read items k item c.loop-at-test.true c.index-list-at.is))) (wrote c.loop-at.invariant c.put_enumeration.ensures)

pub returns : goal.returns
returns g c =
    let items = c.args.list.now in
    of_bytes (last (enumeration_section c.args.sight.now (map (λ v. v.items) c.args.notes.now)) (enumerate_from 0 items) c.loop-at.at (omega (arith, numbered_length 0 items, c.loop-at-test.false))) c.loop-at.invariant
