use Rattle.std.proofs.Common.{refl, ap, Err}
use Rattle.rb_grammar.proofs.Following.{◌⟫◌, ◌⟫|◌}
use Rattle.rb_grammar.proofs.Steps.{entering, taking, calling, calling_stops, halting, passed}
use Rattle.v_parser.proofs.Firsts.{right}
use Rattle.v_parser.proofs.Ranges.{port_read}
use Rattle.v_parser.proofs.cursor.Parser.port.Goals as goal

pub returns-in_err-dir-clause-stops : goal.returns-in_err-dir-clause-stops
returns-in_err-dir-clause-stops c = λ h.
    entering ⟫| calling_stops right (c.in_err-dir.ensures.stops (ap Err (passed _ _ c.from_residual.ensures.1 h))) refl

pub returns-in_err-width-clause-stops : goal.returns-in_err-width-clause-stops
returns-in_err-width-clause-stops c = λ h.
    entering ⟫ calling right c.in_ok-dir.ensures.reads refl ⟫| calling_stops right (c.in_err-width.ensures.stops (ap Err (passed _ _ c.from_residual-in_err-width.ensures.1 h))) refl

pub returns-in_err-name-clause-stops : goal.returns-in_err-name-clause-stops
returns-in_err-name-clause-stops c = λ h.
    entering ⟫ calling right c.in_ok-dir.ensures.reads refl ⟫ calling right c.in_ok-width.ensures.reads refl ⟫| halting right c.in_err-name.ensures.err refl

pub returns-clause-reads : goal.returns-clause-reads
returns-clause-reads c =
    entering ⟫ calling right c.in_ok-dir.ensures.reads refl ⟫ calling right c.in_ok-width.ensures.reads refl ⟫ taking right c.in_ok-name.ensures.ok refl

pub returns-clause-tree : goal.returns-clause-tree
returns-clause-tree c = port_read c.in_ok-dir.dir c.in_ok-width.width c.in_ok-name.name.place c.in_ok-text.field-0 c.in_ok-name.name.text.now c.in_ok-text.ensures c.in_ok-dir.ensures.tree c.in_ok-width.ensures.tree c.in_ok-name.ensures.ok
