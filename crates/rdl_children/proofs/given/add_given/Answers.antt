use Rattle.std.proofs.Common.{subst}
use Rattle.std.proofs.lemmas.List.{take_all}
use Rattle.rdl_children.specs.Children.{AddsGiven}
use Rattle.rdl_children.proofs.Sharing.{given_more, given_none}
use Rattle.rdl_children.proofs.given.add_given.Goals as goal

pub loop-one-init : goal.loop-one-init
loop-one-init c = given_none c.args.site c.args.alias c.args.given.now c.args.list.now.items

pub loop-one-preserved : goal.loop-one-preserved
loop-one-preserved c = given_more c.args.site c.args.alias c.args.given.now c.loop-one.one-index c.one-item.result c.args.list.now.items c.loop-one.list.items c.add_one.new.list.items c.loop-one-test.true c.one-item.is c.loop-one.invariant c.in_ok-add_one.ensures

pub returns : goal.returns
returns c = subst (λ gs. AddsGiven c.args.site c.args.alias gs c.args.list.now.items c.loop-one.list.items) (take_all c.loop-one.one-index c.args.given.now c.loop-one-test.false) c.loop-one.invariant
