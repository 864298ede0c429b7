use Rattle.std.proofs.Common.{refl, ap, Err}
use Rattle.rb_grammar.proofs.Following.{◌⟫◌, ◌⟫|◌}
use Rattle.rb_grammar.proofs.Steps.{entering, taking, halting, passed}
use Rattle.rdl_tree.specs.Tree as tree
use Rattle.rdl_expressions.proofs.Firsts.{right}
use Rattle.rb_grammar.proofs.Factoring.{reading, reading_stops}
use Rattle.rdl_parser.proofs.properties.entry.Goals as goal

pub returns-in_err-name-clause-stops : goal.returns-in_err-name-clause-stops
returns-in_err-name-clause-stops c = λ h. entering ⟫| halting right c.in_err-name.ensures.err refl

pub returns-in_err-value-clause-stops : goal.returns-in_err-value-clause-stops
returns-in_err-value-clause-stops c = λ h. entering ⟫ taking right c.in_ok-name.ensures.ok.1 refl ⟫| reading_stops right _ (c.in_err-value.ensures.stops (ap Err (passed _ _ c.from_residual-in_err-value.ensures.1 h))) refl

pub returns-in_err-sets-clause-stops : goal.returns-in_err-sets-clause-stops
returns-in_err-sets-clause-stops c = λ h. entering ⟫ taking right c.in_ok-name.ensures.ok.1 refl ⟫ reading right _ c.in_ok-value.ensures.reads refl ⟫| reading_stops right _ (c.in_err-sets.ensures.stops (ap Err (passed _ _ c.from_residual-in_err-sets.ensures.1 h))) refl

pub returns-in_err-_end-clause-stops : goal.returns-in_err-_end-clause-stops
returns-in_err-_end-clause-stops c = λ h. entering ⟫ taking right c.in_ok-name.ensures.ok.1 refl ⟫ reading right _ c.in_ok-value.ensures.reads refl ⟫ reading right _ c.in_ok-sets.ensures.reads refl ⟫| halting right c.in_err-_end.ensures.err refl

pub returns-clause-tree : goal.returns-clause-tree
returns-clause-tree c = tree.entry c.in_ok-name.ensures.ok c.in_ok-value.ensures.tree c.in_ok-sets.ensures.tree c.in_ok-_end.ensures.ok

pub returns-clause-reads : goal.returns-clause-reads
returns-clause-reads c = entering ⟫ taking right c.in_ok-name.ensures.ok.1 refl ⟫ reading right _ c.in_ok-value.ensures.reads refl ⟫ reading right _ c.in_ok-sets.ensures.reads refl ⟫ taking right c.in_ok-_end.ensures.ok refl
