use Rattle.rdl_lexer.proofs.Fronts.{string_lexeme, string_breaks}
use Rattle.rdl_lexer.proofs.lexeme.string.Goals as goal

pub returns-in-Some-clause-ok : goal.returns-in-Some-clause-ok
returns-in-Some-clause-ok c = string_lexeme c.in-Some.len c.args.text.now c.requires.bare c.requires.quote c.in-Some.ensures.0 c.in-Some.ensures.1 c.in-Some.ensures.2

pub returns-in-None-clause-err : goal.returns-in-None-clause-err
returns-in-None-clause-err c = string_breaks c.args.text.now c.requires.bare c.requires.quote c.in-None.ensures
