use Rattle.std.proofs.Common.{[], ◌∷◌, length}
use Rattle.rb_grammar.specs.Readings.{Same}
use Rattle.rb_grammar.specs.Forms.{Non, Many}
use Rattle.v_syntax.specs.Grammar.{grammar}
use Rattle.v_syntax.specs.Grammar as rules
use Rattle.v_parser.specs.Reading.{after_stmts}
use Rattle.v_parser.proofs.Loops.{StatementsSoFar}
use Rattle.v_parser.proofs.cursor.Parser.statements.Given as goal

abbrev pub invariant-more : goal.invariant-more
invariant-more l = record {
  tree : StatementsSoFar l.fn.self l.self l.stmts.items l.fn.events.items l.events.items;
  reads : Same grammar after_stmts (Many (Non rules.Stmt) ∷ []) l.fn.self (Many (Non rules.Stmt) ∷ []) l.self;
}

abbrev pub decreases-more : goal.decreases-more
decreases-more l = length l.self
