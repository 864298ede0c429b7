use Rattle.std.proofs.Common.{None, Some, ap, sym, ◌∙◌, arith}
use Rattle.std.proofs.lemmas.Option.{slice_get-get_or}
use Rattle.vcd_reader.proofs.Lists.{row_broken}
use Rattle.vcd_reader.proofs.rows.push_row.Goals as goal

pub returns-in-None : goal.returns-in-None
returns-in-None c =
    let h = c.loop-at.invariant in
    row_broken c.args.values.now c.loop-at.values h.0 c.args.now.now c.loop-at.at h.2 (slice_get-get_or c.args.now.now c.loop-at.at None (omega (arith, c.loop-at-test.true, c.len-width.ensures)) ∙ ap Some (sym c.get.ensures ∙ c.in-None.is))
