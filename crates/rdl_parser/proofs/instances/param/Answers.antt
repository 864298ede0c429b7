use Rattle.std.proofs.Common.{refl, ap, Err}
use Rattle.rb_grammar.proofs.Following.{◌⟫◌, ◌⟫|◌}
use Rattle.rb_grammar.proofs.Steps.{entering, taking, calling, calling_stops, halting, passed}
use Rattle.rdl_tree.specs.Tree as tree
use Rattle.rdl_expressions.proofs.Firsts.{right}
use Rattle.rb_grammar.proofs.Factoring.{reading, reading_stops}
use Rattle.rdl_parser.proofs.instances.param.Goals as goal

pub returns-in_err-ptype-clause-stops : goal.returns-in_err-ptype-clause-stops
returns-in_err-ptype-clause-stops c = λ h. entering ⟫| calling_stops right (c.in_err-ptype.ensures.stops (ap Err (passed _ _ c.from_residual.ensures.1 h))) refl

pub returns-in_err-name-clause-stops : goal.returns-in_err-name-clause-stops
returns-in_err-name-clause-stops c = λ h. entering ⟫ calling right c.in_ok-ptype.ensures.reads refl ⟫| halting right c.in_err-name.ensures.err refl

pub returns-in_err-default-clause-stops : goal.returns-in_err-default-clause-stops
returns-in_err-default-clause-stops c = λ h. entering ⟫ calling right c.in_ok-ptype.ensures.reads refl ⟫ taking right c.in_ok-name.ensures.ok.1 refl ⟫| reading_stops right _ (c.in_err-default.ensures.stops (ap Err (passed _ _ c.from_residual-in_err-default.ensures.1 h))) refl

pub returns-clause-tree : goal.returns-clause-tree
returns-clause-tree c = tree.param c.in_ok-ptype.ensures.tree c.in_ok-name.ensures.ok c.in_ok-default.ensures.tree

pub returns-clause-reads : goal.returns-clause-reads
returns-clause-reads c = entering ⟫ calling right c.in_ok-ptype.ensures.reads refl ⟫ taking right c.in_ok-name.ensures.ok.1 refl ⟫ reading right _ c.in_ok-default.ensures.reads refl
