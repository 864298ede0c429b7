use Rattle.std.proofs.Common.{refl}
use Rattle.rb_grammar.proofs.Lexing.{fails_open}
use Rattle.rb_grammar_example.specs.Lexemes.{settings}
use Rattle.rb_grammar_example.proofs.lexer.next.Goals as goal

pub returns-in-Err-clause-fault : goal.returns-in-Err-clause-fault
returns-in-Err-clause-fault c = let e = c.in-Err.ensures.err in (_, fails_open settings c.args.text.now c.in-Err.open.0 c.args.place.0 c.in-Err.ensures.within e.0 e.1 e.2, refl)
