use Rattle.rdl_values.proofs.Steps.{passed, put_over, twice_fails}
use Rattle.rdl_values.proofs.overlaid.touched_decide.Goals as goal

pub returns-clause-passed : goal.returns-clause-passed
returns-clause-passed c = λ u scope xs before t ps. passed u scope xs before t ps

pub returns-clause-put : goal.returns-clause-put
returns-clause-put c = λ u scope before t p o ps v. put_over u scope before t p o ps v

pub returns-clause-twice : goal.returns-clause-twice
returns-clause-twice c = λ u scope before t p ps. twice_fails u scope before t p ps
