use Rattle.v_check.proofs.Forming.{no-problem}
use Rattle.v_check.proofs.laws.a_problem_is_a_fault.Goals as goal

pub returns : goal.returns
returns c = λ t ts tokens p k f w. no-problem t ts tokens w p k f
