use Rattle.std.proofs.Common.{List, [], ◌∷◌, ◌++◌, length}
use Rattle.rb_grammar.specs.Forms.{Non, Many, ◌then◌}
use Rattle.rb_grammar.specs.Readings.{Same}
use Rattle.rdl_tree.specs.declared.item.Param.{Param}
use Rattle.rdl_tree.specs.declared.token.Mark.TheVariants as marks
use Rattle.rdl_tree.specs.declared.token.Token.{Token}
use Rattle.rdl_tree.specs.Grammar.{grammar, mark}
use Rattle.rdl_tree.specs.Grammar as rules
use Rattle.rdl_tree.specs.Tree.{DerivesParam, DerivesListed}
use Rattle.rdl_parser.specs.ItemForms.{after_params}
use Rattle.rdl_parser.proofs.Lists.{DerivesMore}
use Rattle.rdl_parser.proofs.instances.param_list.Given as goal

abbrev pub invariant-more : goal.invariant-more
invariant-more l = record {
  tree : (us : List Token) (xs : List Param) → DerivesMore DerivesParam l.parser us xs → DerivesListed DerivesParam l.fn.parser us (l.list.items ++ xs);
  reads : Same grammar after_params (Non rules.Param ∷ Many (mark marks.Comma then Non rules.Param) ∷ []) l.fn.parser (Many (mark marks.Comma then Non rules.Param) ∷ []) l.parser;
}

abbrev pub decreases-more : goal.decreases-more
decreases-more l = length l.parser
