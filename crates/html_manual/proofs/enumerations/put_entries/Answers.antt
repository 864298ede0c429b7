use Rattle.std.specs.List.{enumerate_from}
use Rattle.std.proofs.Common.{ℕ, List, arith}
use Rattle.html_text.specs.Writing.{at}
use Rattle.html_text.proofs.Each.{last, more, numbered, numbered_length}
use Rattle.html_text.proofs.Wrote.{nothing, of_bytes, wrote}
use Rattle.html_manual.specs.Enumerations.{entry_row}
use Rattle.html_manual.proofs.enumerations.put_entries.Goals as goal

pub loop-at-init : goal.loop-at-init
loop-at-init g c = nothing (at (g.K.Sink.told c.args.out.now) (g.K.Sink.faults c.args.out.now) c.args.pen.now)

pub loop-at-preserved : goal.loop-at-preserved
loop-at-preserved g c =
    let items = c.args.encoding.now.entries in
    let k = c.loop-at.at in
    let item : List ℕ × ℕ = (c.entry_at-value.result.0.now, c.entry_at-value.result.1) in
    of_bytes (more (entry_row c.args.told c.args.notes.now) (enumerate_from 0 items) k (k, item) (numbered items k item c.entry_at-value.ensures)) (wrote c.loop-at.invariant c.put_entry.ensures)

pub returns : goal.returns
returns g c =
    let items = c.args.encoding.now.entries in
    of_bytes (last (entry_row c.args.told c.args.notes.now) (enumerate_from 0 items) c.loop-at.at (omega (arith, numbered_length 0 items, c.count_of-at-end.ensures, c.loop-at-test.false))) c.loop-at.invariant
