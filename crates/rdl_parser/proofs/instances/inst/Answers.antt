use Rattle.std.proofs.Common.{refl, ap, Err}
use Rattle.rb_grammar.proofs.Following.{◌⟫◌, ◌⟫|◌}
use Rattle.rb_grammar.proofs.Steps.{entering, taking, halting, passed}
use Rattle.rdl_tree.specs.Tree as tree
use Rattle.rdl_expressions.proofs.Firsts.{right}
use Rattle.rb_grammar.proofs.Factoring.{reading, reading_stops}
use Rattle.rdl_parser.proofs.instances.inst.Goals as goal

pub returns-in_err-name-clause-stops : goal.returns-in_err-name-clause-stops
returns-in_err-name-clause-stops c = λ h. entering ⟫| halting right c.in_err-name.ensures.err refl

pub returns-in_err-shape-clause-stops : goal.returns-in_err-shape-clause-stops
returns-in_err-shape-clause-stops c = λ h. entering ⟫ taking right c.in_ok-name.ensures.ok.1 refl ⟫| reading_stops right _ (c.in_err-shape.ensures.stops (ap Err (passed _ _ c.from_residual-in_err-shape.ensures.1 h))) refl

pub returns-in_err-reset-clause-stops : goal.returns-in_err-reset-clause-stops
returns-in_err-reset-clause-stops c = λ h. entering ⟫ taking right c.in_ok-name.ensures.ok.1 refl ⟫ reading right _ c.in_ok-shape.ensures.reads refl ⟫| reading_stops right _ (c.in_err-reset.ensures.stops (ap Err (passed _ _ c.from_residual-in_err-reset.ensures.1 h))) refl

pub returns-in_err-at-clause-stops : goal.returns-in_err-at-clause-stops
returns-in_err-at-clause-stops c = λ h. entering ⟫ taking right c.in_ok-name.ensures.ok.1 refl ⟫ reading right _ c.in_ok-shape.ensures.reads refl ⟫ reading right _ c.in_ok-reset.ensures.reads refl ⟫| reading_stops right _ (c.in_err-at.ensures.stops (ap Err (passed _ _ c.from_residual-in_err-at.ensures.1 h))) refl

pub returns-in_err-stride-clause-stops : goal.returns-in_err-stride-clause-stops
returns-in_err-stride-clause-stops c = λ h. entering ⟫ taking right c.in_ok-name.ensures.ok.1 refl ⟫ reading right _ c.in_ok-shape.ensures.reads refl ⟫ reading right _ c.in_ok-reset.ensures.reads refl ⟫ reading right _ c.in_ok-at.ensures.reads refl ⟫| reading_stops right _ (c.in_err-stride.ensures.stops (ap Err (passed _ _ c.from_residual-in_err-stride.ensures.1 h))) refl

pub returns-in_err-align-clause-stops : goal.returns-in_err-align-clause-stops
returns-in_err-align-clause-stops c = λ h. entering ⟫ taking right c.in_ok-name.ensures.ok.1 refl ⟫ reading right _ c.in_ok-shape.ensures.reads refl ⟫ reading right _ c.in_ok-reset.ensures.reads refl ⟫ reading right _ c.in_ok-at.ensures.reads refl ⟫ reading right _ c.in_ok-stride.ensures.reads refl ⟫| reading_stops right _ (c.in_err-align.ensures.stops (ap Err (passed _ _ c.from_residual-in_err-align.ensures.1 h))) refl

pub returns-clause-tree : goal.returns-clause-tree
returns-clause-tree c = tree.inst c.in_ok-name.ensures.ok c.in_ok-shape.ensures.tree c.in_ok-reset.ensures.tree c.in_ok-at.ensures.tree c.in_ok-stride.ensures.tree c.in_ok-align.ensures.tree

pub returns-clause-reads : goal.returns-clause-reads
returns-clause-reads c = entering ⟫ taking right c.in_ok-name.ensures.ok.1 refl ⟫ reading right _ c.in_ok-shape.ensures.reads refl ⟫ reading right _ c.in_ok-reset.ensures.reads refl ⟫ reading right _ c.in_ok-at.ensures.reads refl ⟫ reading right _ c.in_ok-stride.ensures.reads refl ⟫ reading right _ c.in_ok-align.ensures.reads refl
