use Rattle.std.proofs.Common.{◌*◌, ◌+◌, ◌<◌, List, [], ◌∷◌, ◌++◌, length}
use Rattle.rb_grammar.specs.Forms.{Non, Many}
use Rattle.rb_grammar.specs.Readings.{Same}
use Rattle.rdl_tree.specs.declared.item.Item.{Item}
use Rattle.rdl_tree.specs.declared.token.Mark.TheVariants as marks
use Rattle.rdl_tree.specs.declared.token.Token.{Token}
use Rattle.rdl_tree.specs.Grammar.{grammar, mark}
use Rattle.rdl_tree.specs.Grammar as rules
use Rattle.rdl_tree.specs.Tree.{IsMark, DerivesBody, DerivesItems}
use Rattle.rdl_parser.proofs.components.+item.Given as goal

abbrev pub decreases-add_item : goal.decreases-add_item
decreases-add_item l = length l.parser.now * 8 + 6

abbrev pub decreases-item : goal.decreases-item
decreases-item l = length l.parser.now * 8 + 5

abbrev pub decreases-internal_item : goal.decreases-internal_item
decreases-internal_item l = length l.parser.now * 8 + 4

abbrev pub decreases-def : goal.decreases-def
decreases-def l = length l.parser.now * 8 + 3

abbrev pub decreases-named_def : goal.decreases-named_def
decreases-named_def l = length l.parser.now * 8 + 2

abbrev pub decreases-bare_def : goal.decreases-bare_def
decreases-bare_def l = length l.parser.now * 8 + 2

abbrev pub decreases-body : goal.decreases-body
decreases-body l = length l.parser.now * 8 + 1

abbrev pub invariant-body-more : goal.invariant-body-more
invariant-body-more l = record {
  tree : (us vs : List Token) (t : Token) (is : List Item) → DerivesItems l.parser us is → IsMark marks.CloseBrace us t vs → DerivesBody l.fn.parser vs (l.items.items ++ is);
  reads : Same grammar [] (Non rules.Body ∷ []) l.fn.parser (Many (Non rules.Item) ∷ mark marks.CloseBrace ∷ []) l.parser;
  shorter : length l.parser < length l.fn.parser;
}

abbrev pub decreases-body-more : goal.decreases-body-more
decreases-body-more l = length l.parser
