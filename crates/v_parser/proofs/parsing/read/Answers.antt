use Rattle.std.proofs.Common.{length, ap, Err}
use Rattle.rb_grammar.proofs.Bridge.{stops_at, ends_early, ends_with}
use Rattle.v_syntax.specs.Grammar.{grammar}
use Rattle.v_parser.proofs.Ends.{none_left, some_left}
use Rattle.v_parser.proofs.parsing.read.Goals as goal

pub returns-in-Ok-clause-tree : goal.returns-in-Ok-clause-tree
returns-in-Ok-clause-tree c = c.in-Ok.ensures.tree (none_left c.parser.inside.bytes.now c.parser.inside.rest.now c.module.new.self c.parser.view_is c.if-is_empty.ensures)

pub returns-in-Ok-clause-fits : goal.returns-in-Ok-clause-fits
returns-in-Ok-clause-fits c = ends_with grammar c.module.new.self (ap length (none_left c.parser.inside.bytes.now c.parser.inside.rest.now c.module.new.self c.parser.view_is c.if-is_empty.ensures)) c.in-Ok.ensures.reads

pub returns-in-Ok-2-clause-stops : goal.returns-in-Ok-2-clause-stops
returns-in-Ok-2-clause-stops c = (c.module.new.self, ends_early grammar c.module.new.self (some_left c.parser.inside.bytes.now c.parser.inside.rest.now c.module.new.self c.parser.view_is c.if-is_empty.ensures) c.in-Ok-2.ensures.reads, c.count.ensures)

pub returns-in-Err-Syntax-clause-stops : goal.returns-in-Err-Syntax-clause-stops
returns-in-Err-Syntax-clause-stops c = (c.module.new.self, stops_at grammar (c.in-Err-Syntax.ensures.stops (ap Err c.in-Err-Syntax.field-0-is)), c.count-in-Err-Syntax.ensures)
