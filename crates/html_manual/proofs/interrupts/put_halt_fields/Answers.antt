use Rattle.std.proofs.Common.{get_or}
use Rattle.html_text.specs.Writing.{at}
use Rattle.html_text.proofs.Each.{last, more}
use Rattle.html_text.proofs.Wrote.{nothing, of_bytes, wrote}
use Rattle.plain_lemmas.proofs.Lists.{get-at}
use Rattle.html_manual.specs.Interrupts.{halt_field}
use Rattle.html_manual.proofs.interrupts.put_halt_fields.Goals as goal

pub loop-number-init : goal.loop-number-init
loop-number-init g c = nothing (at (g.K.Sink.told c.args.out.now) (g.K.Sink.faults c.args.out.now) c.args.pen.now)

pub loop-number-preserved : goal.loop-number-preserved
loop-number-preserved g c =
    let items = c.args.numbers.now in
    let k = c.loop-number.number-index in
    of_bytes (more (halt_field c.args.sight.now) items k (get_or items k 0) (get-at items k 0 c.loop-number-test.true)) (wrote c.loop-number.invariant c.put_halt_field.ensures)

pub returns : goal.returns
returns g c = of_bytes (last (halt_field c.args.sight.now) c.args.numbers.now c.loop-number.number-index c.loop-number-test.false) c.loop-number.invariant
