use Rattle.std.proofs.Common.{subst}
use Rattle.std.specs.Option.{option_copied}
use Rattle.rdl_elab.specs.Answers.{Measures}
use Rattle.rdl_elab.proofs.Measured.{measures}
use Rattle.rdl_elab.proofs.measuring.measure.Goals as goal

pub returns : goal.returns
returns c =
    subst (λ w. Measures w c.args.source.now c.in_ok-surveyed.surveyed.walk.count) c.bytes_of.ensures
    (measures (option_copied c.bytes_of.result) c.args.source.now c.in_ok-surveyed.surveyed.walk.count (c.over_the_count.ensures.few (option_copied c.bytes_of.result) c.args.source.now) (c.over_the_count.ensures.many (option_copied c.bytes_of.result) c.args.source.now) c.in_ok-surveyed.ensures.counted)
