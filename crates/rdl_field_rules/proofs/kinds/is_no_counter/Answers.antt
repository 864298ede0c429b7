use Rattle.std.proofs.Common.{◌&&◌, not}
use Rattle.rdl_field_rules.proofs.kinds.is_no_counter.Goals as goal

pub returns : goal.returns
returns c = λ n at i. not (c.has-counts.ensures n at i) && c.has_one_of-has_any.ensures n at i
