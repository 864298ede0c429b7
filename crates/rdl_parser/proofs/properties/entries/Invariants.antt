use Rattle.std.proofs.Common.{List, [], ◌∷◌, ◌++◌, length}
use Rattle.rb_grammar.specs.Forms.{Non, Many, ◌then◌}
use Rattle.rb_grammar.specs.Readings.{Same}
use Rattle.rdl_tree.specs.declared.item.Entry.{Entry}
use Rattle.rdl_tree.specs.declared.token.Mark.TheVariants as marks
use Rattle.rdl_tree.specs.declared.token.Token.{Token}
use Rattle.rdl_tree.specs.Grammar.{grammar, mark}
use Rattle.rdl_tree.specs.Grammar as rules
use Rattle.rdl_tree.specs.Tree.{DerivesMany, DerivesEntry}
use Rattle.rdl_parser.proofs.properties.entries.Given as goal

abbrev pub invariant-more : goal.invariant-more
invariant-more l = record {
  tree : (us : List Token) (es : List Entry) → DerivesMany DerivesEntry l.parser us es → DerivesMany DerivesEntry l.fn.parser us (l.entries.items ++ es);
  reads : Same grammar [] (Many (Non rules.Entry) ∷ (mark marks.CloseBrace then mark marks.Semicolon) ∷ []) l.fn.parser (Many (Non rules.Entry) ∷ (mark marks.CloseBrace then mark marks.Semicolon) ∷ []) l.parser;
}

abbrev pub decreases-more : goal.decreases-more
decreases-more l = length l.parser
