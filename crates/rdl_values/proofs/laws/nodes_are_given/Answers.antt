use Rattle.rdl_values.specs.Instances.{children, signals}
use Rattle.rdl_values.proofs.Given.{children-given, signals-given}
use Rattle.plain_lemmas.proofs.Lists.{each-imp}
use Rattle.rdl_values.proofs.laws.nodes_are_given.Goals as goal

pub returns-clause-children : goal.returns-clause-children
returns-clause-children c n = each-imp _ _ (children n) (λ x h. (h.by, h.in_body, h.given_)) (children-given n)

pub returns-clause-signals_ : goal.returns-clause-signals_
returns-clause-signals_ c s = each-imp _ _ (signals s) (λ x h. (h.by, h.in_body, h.given_)) (signals-given s)
