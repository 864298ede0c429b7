use Rattle.rdl_layers.proofs.Ends.{children-end, signals-end, top-ends}
use Rattle.rdl_layers.proofs.scopes.texts_in_bodies.Goals as goal

pub returns-clause-children_ : goal.returns-clause-children_
returns-clause-children_ c = children-end

pub returns-clause-signals_ : goal.returns-clause-signals_
returns-clause-signals_ c = signals-end

pub returns-clause-top : goal.returns-clause-top
returns-clause-top c = top-ends
