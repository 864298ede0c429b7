use Rattle.rdl_values.proofs.Walking.{all_walked, one_failed, one_put, one_twice, started, walked_on}
use Rattle.rdl_values.proofs.overlaid.touched_in_order.Goals as goal

pub returns-clause-start_ : goal.returns-clause-start_
returns-clause-start_ c = λ u scope ps. started u scope ps

pub returns-clause-passed : goal.returns-clause-passed
returns-clause-passed c = λ u scope ps from upto t. walked_on u scope ps from upto t

pub returns-clause-put : goal.returns-clause-put
returns-clause-put c = λ u scope ps k p t v. one_put u scope ps k p t v

pub returns-clause-failed : goal.returns-clause-failed
returns-clause-failed c = λ u scope ps k p t f. one_failed u scope ps k p t f

pub returns-clause-twice : goal.returns-clause-twice
returns-clause-twice c = λ u scope ps k p t. one_twice u scope ps k p t

pub returns-clause-end_ : goal.returns-clause-end_
returns-clause-end_ c = λ u scope ps k t. all_walked u scope ps k t
