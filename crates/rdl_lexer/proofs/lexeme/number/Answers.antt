use Rattle.rdl_lexer.proofs.NumberFronts.{number_breaks}
use Rattle.rdl_lexer.proofs.lexeme.number.Goals as goal

pub returns-in-None-clause-err : goal.returns-in-None-clause-err
returns-in-None-clause-err c = number_breaks c.number_at-len.result.0 c.args.text.now c.number_at-len.result.1 c.number_at-len.ensures c.in-None.is
