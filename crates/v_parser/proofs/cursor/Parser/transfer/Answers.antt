use Rattle.std.proofs.Common.{refl, ap, Err, codes}
use Rattle.rb_grammar.proofs.Following.{◌⟫◌, ◌⟫|◌}
use Rattle.rb_grammar.proofs.Steps.{taking, calling, calling_stops, halting, passed}
use Rattle.rb_grammar.proofs.Factoring.{splitting}
use Rattle.v_parser.proofs.Firsts.{right}
use Rattle.v_parser.proofs.Blocks.{marked_read}
use Rattle.v_parser.proofs.cursor.Parser.transfer.Goals as goal

pub returns-in_err-to-clause-stops : goal.returns-in_err-to-clause-stops
returns-in_err-to-clause-stops c = λ h. splitting ⟫| halting right c.in_err-to.ensures.err refl

pub returns-in_err-_arrow-clause-stops : goal.returns-in_err-_arrow-clause-stops
returns-in_err-_arrow-clause-stops c = λ h. splitting ⟫ taking right c.in_ok-to.ensures.ok refl ⟫| halting right c.in_err-_arrow.ensures.err refl

pub returns-in_err-expr-clause-stops : goal.returns-in_err-expr-clause-stops
returns-in_err-expr-clause-stops c = λ h. splitting ⟫ taking right c.in_ok-to.ensures.ok refl ⟫ taking right c.in_ok-_arrow.ensures.ok refl ⟫| calling_stops right (c.in_err-expr.ensures.stops (ap Err (passed _ _ c.from_residual-in_err-expr.ensures.1 h))) refl

pub returns-in_err-_end-clause-stops : goal.returns-in_err-_end-clause-stops
returns-in_err-_end-clause-stops c = λ h. splitting ⟫ taking right c.in_ok-to.ensures.ok refl ⟫ taking right c.in_ok-_arrow.ensures.ok refl ⟫ calling right c.in_ok-expr.ensures.reads refl ⟫| halting right c.in_err-_end.ensures.err refl

pub returns-clause-tree : goal.returns-clause-tree
returns-clause-tree c = marked_read (codes "<=") c.in_ok-to.to.text.now c.in_ok-to.to.place.0 c.in_ok-expr.expr c.in_ok-to.ensures.ok c.in_ok-_arrow.ensures.ok c.in_ok-expr.ensures.tree c.in_ok-_end.ensures.ok refl refl

pub returns-clause-reads : goal.returns-clause-reads
returns-clause-reads c = splitting ⟫ taking right c.in_ok-to.ensures.ok refl ⟫ taking right c.in_ok-_arrow.ensures.ok refl ⟫ calling right c.in_ok-expr.ensures.reads refl ⟫ taking right c.in_ok-_end.ensures.ok refl
