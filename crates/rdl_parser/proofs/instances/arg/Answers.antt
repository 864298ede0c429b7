use Rattle.std.proofs.Common.{refl, ap, Err}
use Rattle.rb_grammar.proofs.Following.{◌⟫◌, ◌⟫|◌}
use Rattle.rb_grammar.proofs.Steps.{entering, taking, calling, calling_stops, halting, passed}
use Rattle.rdl_tree.specs.Tree as tree
use Rattle.rdl_expressions.proofs.Firsts.{right}
use Rattle.rdl_parser.proofs.instances.arg.Goals as goal

pub returns-in_err-_dot-clause-stops : goal.returns-in_err-_dot-clause-stops
returns-in_err-_dot-clause-stops c = λ h. entering ⟫| halting right c.in_err-_dot.ensures.err refl

pub returns-in_err-name-clause-stops : goal.returns-in_err-name-clause-stops
returns-in_err-name-clause-stops c = λ h. entering ⟫ taking right c.in_ok-_dot.ensures.ok refl ⟫| halting right c.in_err-name.ensures.err refl

pub returns-in_err-_open-clause-stops : goal.returns-in_err-_open-clause-stops
returns-in_err-_open-clause-stops c = λ h. entering ⟫ taking right c.in_ok-_dot.ensures.ok refl ⟫ taking right c.in_ok-name.ensures.ok.1 refl ⟫| halting right c.in_err-_open.ensures.err refl

pub returns-in_err-value-clause-stops : goal.returns-in_err-value-clause-stops
returns-in_err-value-clause-stops c = λ h. entering ⟫ taking right c.in_ok-_dot.ensures.ok refl ⟫ taking right c.in_ok-name.ensures.ok.1 refl ⟫ taking right c.in_ok-_open.ensures.ok refl ⟫| calling_stops right (c.in_err-value.ensures.stops (ap Err (passed _ _ c.from_residual-in_err-value.ensures.1 h))) refl

pub returns-in_err-_close-clause-stops : goal.returns-in_err-_close-clause-stops
returns-in_err-_close-clause-stops c = λ h. entering ⟫ taking right c.in_ok-_dot.ensures.ok refl ⟫ taking right c.in_ok-name.ensures.ok.1 refl ⟫ taking right c.in_ok-_open.ensures.ok refl ⟫ calling right c.in_ok-value.ensures.reads refl ⟫| halting right c.in_err-_close.ensures.err refl

pub returns-clause-tree : goal.returns-clause-tree
returns-clause-tree c = tree.arg c.in_ok-_dot.ensures.ok c.in_ok-name.ensures.ok c.in_ok-_open.ensures.ok c.in_ok-value.ensures.tree c.in_ok-_close.ensures.ok

pub returns-clause-reads : goal.returns-clause-reads
returns-clause-reads c = entering ⟫ taking right c.in_ok-_dot.ensures.ok refl ⟫ taking right c.in_ok-name.ensures.ok.1 refl ⟫ taking right c.in_ok-_open.ensures.ok refl ⟫ calling right c.in_ok-value.ensures.reads refl ⟫ taking right c.in_ok-_close.ensures.ok refl
