use Rattle.std.proofs.Common.{refl, ap, Err}
use Rattle.rb_grammar.proofs.Following.{◌⟫◌, ◌⟫|◌}
use Rattle.rb_grammar.proofs.Steps.{entering, taking, missing, passed}
use Rattle.rb_grammar.proofs.Factoring.{packing}
use Rattle.rb_grammar.proofs.Returning.{if_ok, then_reads}
use Rattle.v_parser.proofs.Firsts.{right}
use Rattle.v_parser.proofs.Blocks.{assign_read, statement_from}
use Rattle.v_parser.proofs.cursor.Parser.statement.Goals as goal

pub returns-in_default-clause-tree : goal.returns-in_default-clause-tree
returns-in_default-clause-tree c = if_ok c.block.result (λ p r. statement_from p.0 p.1 c.in_default.ensures.list r) c.block.ensures.tree

pub returns-in_default-clause-reads : goal.returns-in_default-clause-reads
returns-in_default-clause-reads c = then_reads _ c.block.result (entering ⟫ missing right c.in_default.ensures refl) c.block.ensures.reads

pub returns-in_default-clause-stops : goal.returns-in_default-clause-stops
returns-in_default-clause-stops c = λ h. entering ⟫ missing right c.in_default.ensures refl ⟫| c.block.ensures.stops h

pub returns-in_err-to-clause-stops : goal.returns-in_err-to-clause-stops
returns-in_err-to-clause-stops c = λ h. entering ⟫ taking right c.in-Some.ensures refl ⟫ packing 1 ⟫| c.in_err-to.ensures.stops (ap Err (passed _ _ c.from_residual.ensures.1 h))

pub returns-clause-reads : goal.returns-clause-reads
returns-clause-reads c = entering ⟫ taking right c.in-Some.ensures refl ⟫ packing 1 ⟫ c.in_ok-to.ensures.reads

pub returns-clause-tree : goal.returns-clause-tree
returns-clause-tree c = assign_read c.in-Some.place c.in_ok-text.field-0 c.in_ok-to.to.text.now c.in_ok-to.expr c.in_ok-text.ensures c.in-Some.ensures c.in_ok-to.ensures.tree
