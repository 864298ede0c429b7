use Rattle.std.proofs.Common.{◌≡◌, ℕ, ◌*◌, ◌+◌, ◌≤◌, List, [], ◌∷◌, ◌++◌, length}
use Rattle.rb_grammar.specs.Forms.{Non, Many}
use Rattle.rb_grammar.specs.Readings.{Same}
use Rattle.rdl_tree.specs.declared.expr.Expr.{Expr}
use Rattle.rdl_tree.specs.declared.expr.Path.{Path, out-Path}
use Rattle.rdl_tree.specs.declared.expr.Step.{Step}
use Rattle.rdl_tree.specs.declared.token.Token.{Token}
use Rattle.rdl_tree.specs.Grammar.{grammar}
use Rattle.rdl_tree.specs.Grammar as rules
use Rattle.rdl_tree.specs.Tree.{IsName, DerivesBinary, DerivesPath, DerivesSteps, DerivesIndices}
use Rattle.rdl_expressions.specs.Following.{after_indices, after_path, after_binary, operands, more_steps, IsLooser}
use Rattle.rdl_expressions.proofs.parser.Parser.+expr.Given as goal

abbrev pub decreases-add_index : goal.decreases-add_index
decreases-add_index l = length l.self.now * 16 + 9

abbrev pub decreases-bracketed : goal.decreases-bracketed
decreases-bracketed l = length l.self.now * 16 + 9

abbrev pub decreases-choice : goal.decreases-choice
decreases-choice l = length l.self.now * 16 + 8

abbrev pub decreases-expr : goal.decreases-expr
decreases-expr l = length l.self.now * 16 + 8

abbrev pub decreases-binary : goal.decreases-binary
decreases-binary l = length l.self.now * 16 + 7

abbrev pub decreases-joined : goal.decreases-joined
decreases-joined l = length l.self.now * 16 + 6

abbrev pub decreases-prefix : goal.decreases-prefix
decreases-prefix l = length l.self.now * 16 + 5

abbrev pub decreases-primary : goal.decreases-primary
decreases-primary l = length l.self.now * 16 + 4

abbrev pub decreases-named : goal.decreases-named
decreases-named l = length l.self.now * 16 + 3

abbrev pub decreases-path_from : goal.decreases-path_from
decreases-path_from l = length l.self.now * 16 + 2

abbrev pub decreases-add_step : goal.decreases-add_step
decreases-add_step l = length l.self.now * 16 + 1

abbrev pub decreases-indices : goal.decreases-indices
decreases-indices l = length l.self.now * 16

abbrev pub invariant-indices-more : goal.invariant-indices-more
invariant-indices-more l = record {
  tree : (us : List Token) (es : List Expr) → DerivesIndices l.self us es → DerivesIndices l.fn.self us (l.index.items ++ es);
  reads : Same grammar after_indices (Many (Non rules.Index) ∷ []) l.fn.self (Many (Non rules.Index) ∷ []) l.self;
}

abbrev pub decreases-indices-more : goal.decreases-indices-more
decreases-indices-more l = length l.self

-- the tree so far binds tightly enough to be the left operand of what may come
abbrev pub invariant-joined-more : goal.invariant-joined-more
invariant-joined-more l = record {
  tree : (k : ℕ) × (l.least ≤ k) × DerivesBinary k l.fn.self l.self l.left × IsLooser (k + 1) l.self;
  reads : Same grammar after_binary (Non rules.Prefix ∷ operands ∷ []) l.fn.self (operands ∷ []) l.self;
}

abbrev pub decreases-joined-more : goal.decreases-joined-more
decreases-joined-more l = length l.self

abbrev pub invariant-path_from-more : goal.invariant-path_from-more
invariant-path_from-more l = record {
  tree : (ts us : List Token) (ss : List Step) (p : Path) → IsName ts l.fn.self l.first → DerivesSteps l.self us ss → (out-Path p).steps.now ≡ l.steps.items ++ ss → DerivesPath ts us p;
  reads : Same grammar after_path (Many (Non rules.Index) ∷ more_steps ∷ []) l.fn.self (more_steps ∷ []) l.self;
}

abbrev pub decreases-path_from-more : goal.decreases-path_from-more
decreases-path_from-more l = length l.self
