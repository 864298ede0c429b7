use Rattle.std.proofs.Common.{◌∙◌}
use Rattle.tests_cases.proofs.shelves.filled.Goals as goal

pub put_other-requires-clause-held : goal.put_other-requires-clause-held
put_other-requires-clause-held c = λ any h. c.in_ok-put.ensures.added.others any h ∙ c.in_ok-shelf.ensures.empty any
