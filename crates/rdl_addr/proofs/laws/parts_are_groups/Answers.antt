use Rattle.rdl_addr.proofs.Grouped.{all-starts, greatest-ends, spans, strides}
use Rattle.rdl_addr.proofs.laws.parts_are_groups.Goals as goal

pub returns-clause-stride : goal.returns-clause-stride
returns-clause-stride c m p g is = strides p g is m

pub returns-clause-span : goal.returns-clause-span
returns-clause-span c m p g is = spans p g is m

pub returns-clause-starts : goal.returns-clause-starts
returns-clause-starts c m ps gs h = all-starts m 0 ps gs h

pub returns-clause-end : goal.returns-clause-end
returns-clause-end c m ps gs h = greatest-ends m 0 ps gs h
