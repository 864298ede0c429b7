use Rattle.rdl_layers.specs.Assignments.{local_in}
use Rattle.rdl_assignments.proofs.Reading.{items_all, locals_more}
use Rattle.rdl_assignments.proofs.locals.judge_locals.Goals as goal

pub loop-item-init : goal.loop-item-init
loop-item-init c = λ b shown. c.in_ok-layer.ensures _ c.args.body c.args.failures.now

pub loop-item-preserved : goal.loop-item-preserved
loop-item-preserved c = λ b shown. locals_more _ c.args.body c.read_local.new.layer c.args.failures.now c.read_local.new.failures (local_in b) c.args.items.now c.loop-item.item-index c.item-item.result c.loop-item-test.true c.item-item.is (c.in_ok-read_local.ensures c.args.failures.now _ b _ shown (c.loop-item.invariant b shown))

pub returns-clause-noted : goal.returns-clause-noted
returns-clause-noted c = λ b e shown. (items_all _ c.args.body c.loop-item.layer c.args.failures.now c.loop-item.failures (local_in b) c.args.items.now b.items c.loop-item.item-index c.loop-item-test.false e (c.loop-item.invariant b shown)).noted

pub returns-clause-given : goal.returns-clause-given
returns-clause-given c = λ b e shown. (items_all _ c.args.body c.loop-item.layer c.args.failures.now c.loop-item.failures (local_in b) c.args.items.now b.items c.loop-item.item-index c.loop-item-test.false e (c.loop-item.invariant b shown)).given
