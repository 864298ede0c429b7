use Rattle.rdl_verdict.proofs.Later.{heard, only}
use Rattle.rdl_verdict.specs.Verdict.{depth, grammar, lexeme}
use Rattle.rdl_verdict.proofs.phases.of_tokens.Goals as goal

pub returns-in-Lex : goal.returns-in-Lex
returns-in-Lex c = λ wanted text h. only wanted text _ (lexeme (heard text _ _ c.in-Lex.is tt h)) _ c.alone.ensures

pub returns-in-Syntax : goal.returns-in-Syntax
returns-in-Syntax c = λ wanted text h. only wanted text _ (grammar (heard text _ _ c.in-Syntax.is tt h)) _ c.alone-in-Syntax.ensures

pub returns-in-TooDeep : goal.returns-in-TooDeep
returns-in-TooDeep c = λ wanted text h. only wanted text _ (depth (heard text _ _ c.in-TooDeep.is tt h)) _ c.alone-in-TooDeep.ensures
