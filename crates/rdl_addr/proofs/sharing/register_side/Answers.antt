use Rattle.std.proofs.Common.{◌∙◌}
use Rattle.rdl_addr.specs.Uses.{side_by}
use Rattle.rdl_addr.proofs.sharing.register_side.Goals as goal

pub returns : goal.returns
returns c = λ n above h. c.side_by.ensures ∙ (λ i. side_by (c.is_any_used-is_read.ensures n above h i) (c.is_any_used-is_written.ensures n above h i) (c.is_any_used-is_changed.ensures n above h i))
