use Rattle.std.proofs.Common.{◌*◌, ◌+◌, List, [], ◌∷◌, ◌++◌, length}
use Rattle.rb_grammar.specs.Readings.{Same}
use Rattle.rb_grammar.specs.Forms.{Non, Many, ◌then◌}
use Rattle.rb_grammar_example.specs.Grammar.{settings, mark}
use Rattle.rb_grammar_example.specs.Grammar as rules
use Rattle.rb_grammar_example.specs.Tree.{DerivesValues, DerivesMore}
use Rattle.rb_grammar_example.specs.declared.token.Token.{Token}
use Rattle.rb_grammar_example.specs.declared.token.Mark.TheVariants as marks
use Rattle.rb_grammar_example.specs.declared.tree.Value.{Value}
use Rattle.rb_grammar_example.proofs.parser.Parser.+value.Given as goal

abbrev pub decreases-value : goal.decreases-value
decreases-value l = length l.self.now * 2 + 1

abbrev pub decreases-values : goal.decreases-values
decreases-values l = length l.self.now * 2

abbrev pub invariant-values-more : goal.invariant-values-more
invariant-values-more l = record {
  tree : (us : List Token) (xs : List Value) → DerivesMore l.self us xs → DerivesValues l.fn.self us (l.values.items ++ xs);
  reads : Same settings [] (Non rules.Values ∷ []) l.fn.self (Many (mark marks.Comma then Non rules.Value) ∷ mark marks.Close ∷ []) l.self;
}

abbrev pub decreases-values-more : goal.decreases-values-more
decreases-values-more l = length l.self
