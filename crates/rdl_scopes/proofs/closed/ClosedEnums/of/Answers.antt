use Rattle.std.proofs.lemmas.List.{take_all}
use Rattle.rdl_scopes.proofs.Closing.{closed_all, closed_more, closed_none}
use Rattle.rdl_scopes.proofs.closed.ClosedEnums.of.Goals as goal

pub loop-at-init : goal.loop-at-init
loop-at-init c = closed_none c.new-closed.result c.args.items.now c.args.failures.now c.new-closed.ensures

pub loop-at-preserved : goal.loop-at-preserved
loop-at-preserved c = closed_more c.args.items.now c.loop-at.at _ c.loop-at.closed c.read.new.self c.args.failures.now c.loop-at.failures c.read.new.failures c.loop-at-test.true c.index-items-at.is c.loop-at.invariant c.in_ok-read.ensures

pub returns : goal.returns
returns c = closed_all c.loop-at.closed c.args.items.now _ c.args.failures.now c.loop-at.failures (take_all c.loop-at.at c.args.items.now c.loop-at-test.false) c.loop-at.invariant
