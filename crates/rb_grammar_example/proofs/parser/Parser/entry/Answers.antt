use Rattle.std.proofs.Common.{refl, ap, Err}
use Rattle.rb_grammar.proofs.Following.{◌⟫◌, ◌⟫|◌}
use Rattle.rb_grammar.proofs.Steps.{entering, taking, calling, calling_stops, halting, passed}
use Rattle.rb_grammar_example.specs.Tree.{entry}
use Rattle.rb_grammar_example.proofs.Firsts.{right}
use Rattle.rb_grammar_example.proofs.parser.Parser.entry.Goals as goal

pub returns-in_default-clause-stops : goal.returns-in_default-clause-stops
returns-in_default-clause-stops c = λ h. entering ⟫| halting right c.in_default.ensures refl

pub returns-in_err-bound-clause-stops : goal.returns-in_err-bound-clause-stops
returns-in_err-bound-clause-stops c = λ h.
    entering ⟫ taking right c.in-Some.ensures.1 refl ⟫| calling_stops right (c.in_err-bound.ensures.stops (ap Err (passed _ _ c.from_residual.ensures.1 h))) refl

pub returns-in_err-_end-clause-stops : goal.returns-in_err-_end-clause-stops
returns-in_err-_end-clause-stops c = λ h.
    entering ⟫ taking right c.in-Some.ensures.1 refl ⟫ calling right c.in_ok-bound.ensures.reads refl ⟫| halting right c.in_err-_end.ensures.err refl

pub returns-clause-tree : goal.returns-clause-tree
returns-clause-tree c = entry c.in-Some.ensures c.in_ok-bound.ensures.tree c.in_ok-_end.ensures.ok

pub returns-clause-reads : goal.returns-clause-reads
returns-clause-reads c =
    entering ⟫ taking right c.in-Some.ensures.1 refl ⟫ calling right c.in_ok-bound.ensures.reads refl ⟫ taking right c.in_ok-_end.ensures.ok refl
