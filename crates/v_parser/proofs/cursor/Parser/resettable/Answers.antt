use Rattle.std.proofs.Common.{refl, ap, Err}
use Rattle.rb_grammar.proofs.Following.{◌⟫◌, ◌⟫|◌}
use Rattle.rb_grammar.proofs.Steps.{taking, halting, passed}
use Rattle.rb_grammar.proofs.Factoring.{splitting, packing}
use Rattle.v_parser.proofs.Firsts.{right}
use Rattle.v_parser.proofs.Blocks.{reset_read}
use Rattle.v_parser.proofs.cursor.Parser.resettable.Goals as goal

pub returns-in_err-low-clause-stops : goal.returns-in_err-low-clause-stops
returns-in_err-low-clause-stops c = λ h. c.in_err-low.ensures.stops (ap Err (passed _ _ c.from_residual.ensures.1 h))

pub returns-in_err-negated-clause-stops : goal.returns-in_err-negated-clause-stops
returns-in_err-negated-clause-stops c = λ h. c.in_ok-low.ensures.reads ⟫| c.in_err-negated.ensures.stops (ap Err (passed _ _ c.from_residual-in_err-negated.ensures.1 h))

pub returns-in_err-to-clause-stops : goal.returns-in_err-to-clause-stops
returns-in_err-to-clause-stops c = λ h. c.in_ok-low.ensures.reads ⟫ c.in_ok-negated.ensures.reads ⟫| c.in_err-to.ensures.stops (ap Err (passed _ _ c.from_residual-in_err-to.ensures.1 h))

pub returns-in_err-_else-clause-stops : goal.returns-in_err-_else-clause-stops
returns-in_err-_else-clause-stops c = λ h. c.in_ok-low.ensures.reads ⟫ c.in_ok-negated.ensures.reads ⟫ c.in_ok-to.ensures.reads ⟫ splitting ⟫| halting right c.in_err-_else.ensures.err refl

pub returns-in_err-again-clause-stops : goal.returns-in_err-again-clause-stops
returns-in_err-again-clause-stops c = λ h. c.in_ok-low.ensures.reads ⟫ c.in_ok-negated.ensures.reads ⟫ c.in_ok-to.ensures.reads ⟫ splitting ⟫ taking right c.in_ok-_else.ensures.ok refl ⟫ packing 1 ⟫| c.in_err-again.ensures.stops (ap Err (passed _ _ c.from_residual-in_err-again.ensures.1 h))

pub returns-clause-reads : goal.returns-clause-reads
returns-clause-reads c = c.in_ok-low.ensures.reads ⟫ c.in_ok-negated.ensures.reads ⟫ c.in_ok-to.ensures.reads ⟫ splitting ⟫ taking right c.in_ok-_else.ensures.ok refl ⟫ packing 1 ⟫ c.in_ok-again.ensures.reads

pub returns-clause-tree : goal.returns-clause-tree
returns-clause-tree c = reset_read c.args.place c.args.clock c.in_ok-negated.test.text c.in_ok-again.again.text c.in_ok-pin.pin c.in_ok-low.pin.text.now c.in_ok-to-2.to c.in_ok-to.to.text.now c.in_ok-low.low c.in_ok-negated.negated c.in_ok-to.width c.in_ok-to.value
    c.in_ok-again.expr c.in_ok-pin.ensures c.in_ok-to-2.ensures c.in_ok-low.ensures.tree c.in_ok-negated.ensures.tree c.in_ok-to.ensures.tree c.in_ok-_else.ensures.ok c.in_ok-again.ensures.tree refl
