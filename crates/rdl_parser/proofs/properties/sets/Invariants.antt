use Rattle.std.proofs.Common.{List, [], ◌∷◌, ◌++◌, length}
use Rattle.rb_grammar.specs.Forms.{Non, Many}
use Rattle.rb_grammar.specs.Readings.{Same}
use Rattle.rdl_tree.specs.declared.item.Set.{Set}
use Rattle.rdl_tree.specs.declared.token.Mark.TheVariants as marks
use Rattle.rdl_tree.specs.declared.token.Token.{Token}
use Rattle.rdl_tree.specs.Grammar.{grammar, mark}
use Rattle.rdl_tree.specs.Grammar as rules
use Rattle.rdl_tree.specs.Tree.{IsMark, DerivesMany, DerivesSet, DerivesSets}
use Rattle.rdl_parser.specs.ItemForms.{after_sets, sets}
use Rattle.rdl_parser.proofs.properties.sets.Given as goal

abbrev pub invariant-more : goal.invariant-more
invariant-more l = record {
  tree : (us vs : List Token) (t : Token) (ss : List Set) → DerivesMany DerivesSet l.parser us ss → IsMark marks.CloseBrace us t vs → DerivesSets l.fn.parser vs (l.sets.items ++ ss);
  reads : Same grammar after_sets (sets ∷ []) l.fn.parser (Many (Non rules.Local) ∷ mark marks.CloseBrace ∷ []) l.parser;
}

abbrev pub decreases-more : goal.decreases-more
decreases-more l = length l.parser
