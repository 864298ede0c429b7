use Rattle.std.proofs.Common.{ap, Err}
use Rattle.rb_grammar.proofs.Following.{◌⟫◌, ◌⟫|◌}
use Rattle.rb_grammar.proofs.Steps.{passed}
use Rattle.rdl_tree.specs.Tree as tree
use Rattle.rdl_parser.proofs.Phrases.{behind_taken, behind_missed, behind_expr, behind_stops}
use Rattle.rdl_parser.proofs.instances.behind.Goals as goal

pub returns-in_default-clause-tree : goal.returns-in_default-clause-tree
returns-in_default-clause-tree c = rw c.in_default.ensures.list tree.none

pub returns-in_default-clause-reads : goal.returns-in_default-clause-reads
returns-in_default-clause-reads c = behind_missed c.in_default.ensures

pub returns-in_err-value-clause-stops : goal.returns-in_err-value-clause-stops
returns-in_err-value-clause-stops c = λ h. behind_taken c.in-Some.ensures ⟫| behind_stops (c.in_err-value.ensures.stops (ap Err (passed _ _ c.from_residual.ensures.1 h)))

pub returns-clause-tree : goal.returns-clause-tree
returns-clause-tree c = tree.some c.in-Some.ensures c.in_ok-value.ensures.tree

pub returns-clause-reads : goal.returns-clause-reads
returns-clause-reads c = behind_taken c.in-Some.ensures ⟫ behind_expr c.in_ok-value.ensures.reads
