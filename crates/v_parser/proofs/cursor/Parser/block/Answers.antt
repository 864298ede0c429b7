use Rattle.std.proofs.Common.{refl, ap, Err}
use Rattle.rb_grammar.proofs.Following.{◌⟫◌, ◌⟫|◌}
use Rattle.rb_grammar.proofs.Steps.{taking, missing, passed}
use Rattle.rb_grammar.proofs.Factoring.{packing}
use Rattle.rb_grammar.proofs.Returning.{if_ok, then_reads}
use Rattle.v_parser.proofs.Firsts.{right}
use Rattle.v_parser.proofs.Blocks.{block_read, behind_clock}
use Rattle.v_parser.proofs.cursor.Parser.block.Goals as goal

pub returns-in_err-place-clause-stops : goal.returns-in_err-place-clause-stops
returns-in_err-place-clause-stops c = λ h. c.in_err-place.ensures.stops (ap Err (passed _ _ c.from_residual.ensures.1 h))

pub returns-in_default-clause-tree : goal.returns-in_default-clause-tree
returns-in_default-clause-tree c = if_ok c.resettable.result (λ p r. behind_clock c.in_ok-place.place c.in_ok-place.clock.text.now p.0 p.1 c.in_ok-place.ensures.tree c.in_default.ensures.list r) c.resettable.ensures.tree

pub returns-in_default-clause-reads : goal.returns-in_default-clause-reads
returns-in_default-clause-reads c = then_reads _ c.resettable.result (c.in_ok-place.ensures.reads ⟫ missing right c.in_default.ensures refl) c.resettable.ensures.reads

pub returns-in_default-clause-stops : goal.returns-in_default-clause-stops
returns-in_default-clause-stops c = λ h. c.in_ok-place.ensures.reads ⟫ missing right c.in_default.ensures refl ⟫| c.resettable.ensures.stops h

pub returns-in_err-to-clause-stops : goal.returns-in_err-to-clause-stops
returns-in_err-to-clause-stops c = λ h. c.in_ok-place.ensures.reads ⟫ taking right c.in-Some.ensures refl ⟫ packing 1 ⟫| c.in_err-to.ensures.stops (ap Err (passed _ _ c.from_residual-in_err-to.ensures.1 h))

pub returns-clause-reads : goal.returns-clause-reads
returns-clause-reads c = c.in_ok-place.ensures.reads ⟫ taking right c.in-Some.ensures refl ⟫ packing 1 ⟫ c.in_ok-to.ensures.reads

pub returns-clause-tree : goal.returns-clause-tree
returns-clause-tree c = block_read c.in_ok-place.place c.in_ok-place.clock.text c.in_ok-text.field-0 c.in_ok-to.to.text.now c.in_ok-to.expr c.in_ok-text.ensures c.in_ok-place.ensures.tree c.in-Some.ensures c.in_ok-to.ensures.tree refl
