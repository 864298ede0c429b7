use Rattle.std.proofs.Common.{refl, ap, Err}
use Rattle.rb_grammar.proofs.Following.{◌⟫◌, ◌⟫|◌}
use Rattle.rb_grammar.proofs.Steps.{entering, taking, halting, passed, calling, calling_stops}
use Rattle.v_parser.proofs.Firsts.{right}
use Rattle.v_parser.proofs.Ranges.{decl_read}
use Rattle.v_parser.proofs.cursor.Parser.decl.Goals as goal

pub returns-in_err-reg-clause-stops : goal.returns-in_err-reg-clause-stops
returns-in_err-reg-clause-stops c = λ h.
    entering ⟫| calling_stops right (c.in_err-reg.ensures.stops (ap Err (passed _ _ c.from_residual.ensures.1 h))) refl

pub returns-in_err-width-clause-stops : goal.returns-in_err-width-clause-stops
returns-in_err-width-clause-stops c = λ h.
    entering ⟫ calling right c.in_ok-reg.ensures.reads refl ⟫| calling_stops right (c.in_err-width.ensures.stops (ap Err (passed _ _ c.from_residual-in_err-width.ensures.1 h))) refl

pub returns-in_err-name-clause-stops : goal.returns-in_err-name-clause-stops
returns-in_err-name-clause-stops c = λ h.
    entering ⟫ calling right c.in_ok-reg.ensures.reads refl ⟫ calling right c.in_ok-width.ensures.reads refl ⟫| halting right c.in_err-name.ensures.err refl

pub returns-in_err-_end-clause-stops : goal.returns-in_err-_end-clause-stops
returns-in_err-_end-clause-stops c = λ h.
    entering ⟫ calling right c.in_ok-reg.ensures.reads refl ⟫ calling right c.in_ok-width.ensures.reads refl ⟫ taking right c.in_ok-name.ensures.ok refl ⟫| halting right c.in_err-_end.ensures.err refl

pub returns-clause-reads : goal.returns-clause-reads
returns-clause-reads c =
    entering ⟫ calling right c.in_ok-reg.ensures.reads refl ⟫ calling right c.in_ok-width.ensures.reads refl ⟫ taking right c.in_ok-name.ensures.ok refl ⟫ taking right c.in_ok-_end.ensures.ok refl

pub returns-clause-tree : goal.returns-clause-tree
returns-clause-tree c = decl_read c.in_ok-reg.reg c.in_ok-width.width c.in_ok-name.name.place c.in_ok-text.field-0 c.in_ok-name.name.text.now c.in_ok-text.ensures c.in_ok-reg.ensures.tree c.in_ok-width.ensures.tree c.in_ok-name.ensures.ok c.in_ok-_end.ensures.ok refl
