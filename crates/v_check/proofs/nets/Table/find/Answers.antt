use Rattle.std.proofs.Common.{◌∙◌}
use Rattle.v_check.proofs.nets.Table.find.Goals as goal

pub returns : goal.returns
returns c = c.copied.ensures ∙ c.get.ensures.value
