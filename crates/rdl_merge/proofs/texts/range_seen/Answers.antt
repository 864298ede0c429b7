use Rattle.std.proofs.Common.{◌∙◌, ap, option_copied}
use Rattle.rdl_values.specs.Bodies.{around}
use Rattle.rdl_merge.proofs.Ranges.{range_given, range_none}
use Rattle.rdl_merge.proofs.texts.range_seen.Goals as goal

pub returns-in-Some : goal.returns-in-Some
returns-in-Some c = λ n e shown. c.both_seen.ensures (around n.use_.scope) shown ∙ range_given n c.in-Some.bits.now (e ∙ ap option_copied c.in-Some.is)

pub returns-in-None : goal.returns-in-None
returns-in-None c = λ n e shown. range_none n (e ∙ ap option_copied c.in-None.is)
