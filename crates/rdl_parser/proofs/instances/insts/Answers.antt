use Rattle.std.proofs.Common.{refl, ap, Err}
use Rattle.rb_grammar.proofs.Following.{◌⟫◌, ◌⟫|◌}
use Rattle.rb_grammar.proofs.Steps.{entering, calling, calling_stops, passed}
use Rattle.rdl_tree.specs.Tree as tree
use Rattle.rdl_expressions.proofs.Firsts.{right}
use Rattle.rb_grammar.proofs.Factoring.{reading, reading_stops}
use Rattle.rdl_parser.proofs.instances.insts.Goals as goal

pub returns-in_err-args-clause-stops : goal.returns-in_err-args-clause-stops
returns-in_err-args-clause-stops c = λ h. entering ⟫| reading_stops right _ (c.in_err-args.ensures.stops (ap Err (passed _ _ c.from_residual.ensures.1 h))) refl

pub returns-in_err-list-clause-stops : goal.returns-in_err-list-clause-stops
returns-in_err-list-clause-stops c = λ h. entering ⟫ reading right _ c.in_ok-args.ensures.reads refl ⟫| calling_stops right (c.in_err-list.ensures.stops (ap Err (passed _ _ c.from_residual-in_err-list.ensures.1 h))) refl

pub returns-clause-tree : goal.returns-clause-tree
returns-clause-tree c = tree.insts c.in_ok-args.ensures.tree c.in_ok-list.ensures.tree

pub returns-clause-reads : goal.returns-clause-reads
returns-clause-reads c = entering ⟫ reading right _ c.in_ok-args.ensures.reads refl ⟫ calling right c.in_ok-list.ensures.reads refl
