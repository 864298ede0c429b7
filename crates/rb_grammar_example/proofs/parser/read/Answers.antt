use Rattle.std.proofs.Common.{length, ap, arith, Err}
use Rattle.std.proofs.lemmas.Bool.Decides.{nat_tests}
use Rattle.rb_grammar.proofs.Bridge.{stops_at, ends_early, ends_with}
use Rattle.rb_grammar_example.specs.Grammar.{settings}
use Rattle.rb_grammar_example.proofs.parser.read.Goals as goal

pub returns-in-Ok-clause-fits : goal.returns-in-Ok-clause-fits
returns-in-Ok-clause-fits c = ends_with settings c.source.new.self (grind (arith, nat_tests, c.if-is_empty.ensures, ap length c.parser.view_is)) c.in-Ok.ensures.reads

pub returns-in-Ok-2-clause-stops : goal.returns-in-Ok-2-clause-stops
returns-in-Ok-2-clause-stops c = rw c.parser.view_is (ends_early settings c.source.new.self (grind (arith, nat_tests, c.if-is_empty.ensures, ap length c.parser.view_is)) c.in-Ok-2.ensures.reads)

pub returns-in-Err-Syntax-clause-stops : goal.returns-in-Err-Syntax-clause-stops
returns-in-Err-Syntax-clause-stops c = rw c.parser.view_is (stops_at settings (c.in-Err-Syntax.ensures.stops (ap Err c.in-Err-Syntax.field-0-is)))
