use Rattle.std.proofs.Common.{refl, ap, Err}
use Rattle.rb_grammar.proofs.Following.{◌⟫◌, ◌⟫|◌}
use Rattle.rb_grammar.proofs.Steps.{entering, taking, missing, calling, calling_stops, halting, passed}
use Rattle.rb_grammar_example.specs.Tree.{value, alias}
use Rattle.rb_grammar_example.proofs.Firsts.{right}
use Rattle.rb_grammar_example.proofs.parser.Parser.bound.Goals as goal

pub returns-in_err-value-clause-stops : goal.returns-in_err-value-clause-stops
returns-in_err-value-clause-stops c = λ h.
    entering ⟫ taking right c.in-Some.ensures refl ⟫| calling_stops right (c.in_err-value.ensures.stops (ap Err (passed _ _ c.from_residual.ensures.1 h))) refl

pub returns-in-Some-clause-tree : goal.returns-in-Some-clause-tree
returns-in-Some-clause-tree c = value c.in-Some.ensures c.in_ok-value.ensures.tree

pub returns-in-Some-clause-reads : goal.returns-in-Some-clause-reads
returns-in-Some-clause-reads c = entering ⟫ taking right c.in-Some.ensures refl ⟫ calling right c.in_ok-value.ensures.reads refl

pub returns-in_err-_arrow-clause-stops : goal.returns-in_err-_arrow-clause-stops
returns-in_err-_arrow-clause-stops c = λ h. entering ⟫ missing right c.in_default.ensures refl ⟫| halting right c.in_err-_arrow.ensures.err refl

pub returns-in_default-name-clause-stops : goal.returns-in_default-name-clause-stops
returns-in_default-name-clause-stops c = λ h. entering ⟫ missing right c.in_default.ensures refl ⟫ taking right c.in_ok-_arrow.ensures.ok refl ⟫| halting right c.in_default-name.ensures refl

pub returns-clause-tree : goal.returns-clause-tree
returns-clause-tree c = rw (← c.in_default.ensures.list) (alias c.in_ok-_arrow.ensures.ok c.in-Some-name.ensures)

pub returns-clause-reads : goal.returns-clause-reads
returns-clause-reads c = entering ⟫ missing right c.in_default.ensures refl ⟫ taking right c.in_ok-_arrow.ensures.ok refl ⟫ taking right c.in-Some-name.ensures.1 refl
