use Rattle.std.proofs.Common.{◌∙◌, sym}
use Rattle.rdl_bind.proofs.Targets.{item-here, item-later}
use Rattle.rdl_bind.proofs.given_items.item_of.Goals as goal

pub returns-then-eq : goal.returns-then-eq
returns-then-eq c = sym (c.loop-target.invariant ∙ item-here c.args.prop c.args.targets.now c.loop-target.target-index _ c.loop-target-test.true (sym c.eq.ensures ∙ c.if-eq.true))

pub loop-target-preserved : goal.loop-target-preserved
loop-target-preserved c = c.loop-target.invariant ∙ item-later c.args.prop c.args.targets.now c.loop-target.target-index _ c.loop-target-test.true (sym c.eq.ensures ∙ c.if-eq.false)
