use Rattle.rdl_scopes.proofs.Defaulting.{text_more, text_none}
use Rattle.rdl_scopes.proofs.text_defaults.TextDefaults.of.Goals as goal

pub loop-at-init : goal.loop-at-init
loop-at-init c = text_none c.in_ok-defaults.defaults c.args.items.now c.in_ok-defaults.ensures.none c.in_ok-defaults.ensures.empty

pub loop-at-preserved : goal.loop-at-preserved
loop-at-preserved c = text_more c.args.items.now c.loop-at.at _ c.loop-at.defaults c.read.new.self c.loop-at-test.true c.index-items-at.is c.read.ensures.none c.in_ok-read.ensures.each c.loop-at.invariant
