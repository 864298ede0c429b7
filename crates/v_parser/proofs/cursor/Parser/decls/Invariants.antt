use Rattle.std.proofs.Common.{[], ◌∷◌, length}
use Rattle.rb_grammar.specs.Readings.{Same}
use Rattle.rb_grammar.specs.Forms.{Non, Many}
use Rattle.v_syntax.specs.Grammar.{grammar}
use Rattle.v_syntax.specs.Grammar as rules
use Rattle.v_parser.specs.Reading.{after_decls}
use Rattle.v_parser.proofs.Loops.{DeclsSoFar}
use Rattle.v_parser.proofs.cursor.Parser.decls.Given as goal

abbrev pub invariant-more : goal.invariant-more
invariant-more l = record {
  tree : DeclsSoFar l.fn.self l.self l.decls.items l.fn.declared.items l.declared.items;
  reads : Same grammar after_decls (Many (Non rules.Decl) ∷ []) l.fn.self (Many (Non rules.Decl) ∷ []) l.self;
}

abbrev pub decreases-more : goal.decreases-more
decreases-more l = length l.self
