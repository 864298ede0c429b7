use Rattle.std.proofs.Common.{List, [], ◌∷◌, ◌++◌, length}
use Rattle.rb_grammar.specs.Forms.{Non, Many, ◌then◌}
use Rattle.rb_grammar.specs.Readings.{Same}
use Rattle.rdl_tree.specs.declared.item.Arg.{Arg}
use Rattle.rdl_tree.specs.declared.token.Mark.TheVariants as marks
use Rattle.rdl_tree.specs.declared.token.Token.{Token}
use Rattle.rdl_tree.specs.Grammar.{grammar, mark}
use Rattle.rdl_tree.specs.Grammar as rules
use Rattle.rdl_tree.specs.Tree.{DerivesArg, DerivesListed}
use Rattle.rdl_parser.specs.ItemForms.{after_args}
use Rattle.rdl_parser.proofs.Lists.{DerivesMore}
use Rattle.rdl_parser.proofs.instances.arg_list.Given as goal

abbrev pub invariant-more : goal.invariant-more
invariant-more l = record {
  tree : (us : List Token) (xs : List Arg) → DerivesMore DerivesArg l.parser us xs → DerivesListed DerivesArg l.fn.parser us (l.list.items ++ xs);
  reads : Same grammar after_args (Non rules.Arg ∷ Many (mark marks.Comma then Non rules.Arg) ∷ []) l.fn.parser (Many (mark marks.Comma then Non rules.Arg) ∷ []) l.parser;
}

abbrev pub decreases-more : goal.decreases-more
decreases-more l = length l.parser
