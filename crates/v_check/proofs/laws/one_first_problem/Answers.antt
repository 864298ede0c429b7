use Rattle.v_check.proofs.Forming.{one-first}
use Rattle.v_check.proofs.laws.one_first_problem.Goals as goal

pub returns : goal.returns
returns c = λ t ts p q j k a b. one-first t ts p q j k a b
