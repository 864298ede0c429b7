use Rattle.std.proofs.Common.{refl, ap, Err}
use Rattle.rb_grammar.proofs.Following.{◌⟫◌, ◌⟫|◌}
use Rattle.rb_grammar.proofs.Steps.{taking, halting, passed}
use Rattle.rdl_expressions.proofs.Firsts.{right}
use Rattle.rb_grammar.proofs.Factoring.{reading, reading_stops}
use Rattle.rdl_parser.proofs.properties.set_from.Goals as goal

pub returns-in_err-value-clause-stops : goal.returns-in_err-value-clause-stops
returns-in_err-value-clause-stops c = λ h. reading_stops right _ (c.in_err-value.ensures.stops (ap Err (passed _ _ c.from_residual.ensures.1 h))) refl

pub returns-in_err-_end-clause-stops : goal.returns-in_err-_end-clause-stops
returns-in_err-_end-clause-stops c = λ h. reading right _ c.in_ok-value.ensures.reads refl ⟫| halting right c.in_err-_end.ensures.err refl

pub returns-clause-tree : goal.returns-clause-tree
returns-clause-tree c = record { value = c.in_ok-value.value; end = c.in_ok-_end._end; middle = c.assigned.new.parser; assigned = c.in_ok-value.ensures.tree; ends = c.in_ok-_end.ensures.ok; is = refl }

pub returns-clause-reads : goal.returns-clause-reads
returns-clause-reads c = reading right _ c.in_ok-value.ensures.reads refl ⟫ taking right c.in_ok-_end.ensures.ok refl
