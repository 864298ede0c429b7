use Rattle.std.proofs.Common.{sym, ◌∙◌, below_more}
use Rattle.rb_machine.specs.Table.{values_of}
use Rattle.rb_machine.specs.Scene.{raises_line}
use Rattle.rb_machine.proofs.Lines.{any_found, none_raised}
use Rattle.rb_machine.proofs.scene.EdgeState.is_raised.Goals as goal

pub returns-then-raises : goal.returns-then-raises
returns-then-raises c =
    sym (any_found (raises_line (values_of c.args.table.now) c.args.halt c.args.reg) c.args.self.now.block.now.fields _ (sym c.raises.ensures ∙ c.if-raises.true))

pub loop-number-preserved : goal.loop-number-preserved
loop-number-preserved c = below_more _ _ c.loop-number.invariant (sym c.raises.ensures ∙ c.if-raises.false)

pub returns : goal.returns
returns c =
    sym (none_raised c.args.self.now.block.now c.args.self.now.plan.now (values_of c.args.table.now) c.args.halt c.args.reg c.loop-number.number-index c.members-number-items.result.now
    c.requires.planned c.members-number-items.ensures c.loop-number-test.false c.loop-number.invariant)
