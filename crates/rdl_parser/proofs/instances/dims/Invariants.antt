use Rattle.std.proofs.Common.{List, [], ◌∷◌, ◌++◌, length}
use Rattle.rb_grammar.specs.Forms.{Non, Many}
use Rattle.rb_grammar.specs.Readings.{Same}
use Rattle.rdl_tree.specs.declared.expr.Expr.{Expr}
use Rattle.rdl_tree.specs.declared.token.Mark.TheVariants as marks
use Rattle.rdl_tree.specs.declared.token.Token.{Token}
use Rattle.rdl_tree.specs.Grammar.{grammar, mark}
use Rattle.rdl_tree.specs.Grammar as rules
use Rattle.rdl_tree.specs.Tree.{IsMark, DerivesExpr, DerivesIndices}
use Rattle.rdl_expressions.specs.Following.{after_indices}
use Rattle.rdl_parser.proofs.instances.dims.Given as goal

abbrev pub invariant-more : goal.invariant-more
invariant-more l = record {
  tree : (t : Token) (ts us vs : List Token) (es : List Expr) → IsMark marks.OpenBracket ts t us → DerivesExpr us l.fn.parser l.first → DerivesIndices l.parser vs es → DerivesIndices ts vs (l.dims.items ++ es);
  reads : Same grammar after_indices (mark marks.CloseBracket ∷ Many (Non rules.Index) ∷ []) l.fn.parser (Many (Non rules.Index) ∷ []) l.parser;
}

abbrev pub decreases-more : goal.decreases-more
decreases-more l = length l.parser
