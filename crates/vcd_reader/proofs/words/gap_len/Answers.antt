use Rattle.std.proofs.Common.{sym, ◌∙◌}
use Rattle.vcd_reader.proofs.Runs.{one_blank}
use Rattle.vcd_reader.proofs.words.gap_len.Goals as goal

pub returns-in-len2-up-clause-skips : goal.returns-in-len2-up-clause-skips
returns-in-len2-up-clause-skips c = one_blank c.args.text.now c.in-len2-up.len_at_least (sym c.is_blank.ensures ∙ c.if-is_blank.true)
