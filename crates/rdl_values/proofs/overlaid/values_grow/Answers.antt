use Rattle.rdl_values.proofs.Growing.{grown, none_below, typed_grows, untouched_value}
use Rattle.rdl_values.proofs.overlaid.values_grow.Goals as goal

pub returns-clause-grow : goal.returns-clause-grow
returns-clause-grow c = grown

pub returns-clause-nothing : goal.returns-clause-nothing
returns-clause-nothing c = λ those e v h. grown _ those (none_below those) e v h

pub returns-clause-read_ : goal.returns-clause-read_
returns-clause-read_ c = typed_grows

pub returns-clause-untouched : goal.returns-clause-untouched
returns-clause-untouched c = untouched_value
