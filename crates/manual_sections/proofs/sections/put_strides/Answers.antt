use Rattle.std.specs.List.{enumerate_from}
use Rattle.std.proofs.Common.{arith, get_or}
use Rattle.html_text.specs.Writing.{at}
use Rattle.html_text.proofs.Wrote.{nothing, of_bytes, wrote}
use Rattle.html_text.proofs.Each.{last, more, numbered, numbered_length}
use Rattle.plain_lemmas.proofs.Lists.{get-at}
use Rattle.manual_sections.specs.Sections.{stride_text}
use Rattle.manual_sections.proofs.sections.put_strides.Goals as goal

pub loop-at-init : goal.loop-at-init
loop-at-init g c = nothing (at (g.K.Sink.told c.args.out.now) (g.K.Sink.faults c.args.out.now) c.args.pen.now)

pub loop-at-preserved : goal.loop-at-preserved
loop-at-preserved g c =
    let items = c.args.strides.now in
    let k = c.loop-at.at in
    let item = get_or items k 0 in
    of_bytes (more (stride_text) (enumerate_from 0 items) k (k, item) (numbered items k item (get-at items k 0 c.loop-at-test.true))) (wrote c.loop-at.invariant c.put_stride.ensures)

pub returns : goal.returns
returns g c =
    let items = c.args.strides.now in
    of_bytes (last (stride_text) (enumerate_from 0 items) c.loop-at.at (omega (arith, numbered_length 0 items, c.loop-at-test.false))) c.loop-at.invariant
