use Rattle.std.proofs.Common.{List, [], ◌∷◌, ◌++◌, length}
use Rattle.rb_grammar.specs.Readings.{Same}
use Rattle.rb_grammar.specs.Forms.{Non, Many}
use Rattle.rb_grammar_example.specs.Grammar.{settings, after_source}
use Rattle.rb_grammar_example.specs.Grammar as rules
use Rattle.rb_grammar_example.specs.Tree.{DerivesEntries}
use Rattle.rb_grammar_example.specs.declared.token.Token.{Token}
use Rattle.rb_grammar_example.specs.declared.tree.Entry.{Entry}
use Rattle.rb_grammar_example.proofs.parser.Parser.source.Given as goal

abbrev pub invariant-more : goal.invariant-more
invariant-more l = record {
  tree : (us : List Token) (es : List Entry) → DerivesEntries l.self us es → DerivesEntries l.fn.self us (l.entries.items ++ es);
  reads : Same settings after_source (Non rules.Source ∷ []) l.fn.self (Many (Non rules.Entry) ∷ []) l.self;
}

abbrev pub decreases-more : goal.decreases-more
decreases-more l = length l.self
