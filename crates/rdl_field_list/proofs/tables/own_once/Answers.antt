use Rattle.std.proofs.Common.{◌≡◌, subst, arith}
use Rattle.rdl_field_list.specs.Tables.{AreOnceTo}
use Rattle.rdl_field_list.proofs.Tabled.{none-yet, one-more}
use Rattle.rdl_field_list.proofs.tables.own_once.Goals as goal

pub loop-node-init : goal.loop-node-init
loop-node-init c = none-yet c.args.props.now c.new-list.result.items c.new-list.ensures.items

pub loop-node-preserved : goal.loop-node-preserved
loop-node-preserved c = one-more c.args.props.now c.loop-node.node c.loop-node.list.items c.push.new.self.items c.is_once.result c.loop-node.invariant c.in_ok-push.ensures.items c.is_once.ensures

pub returns : goal.returns
returns c =
    let whole : c.loop-node.node ≡ c.args.count = omega (arith, c.loop-node.auto.node-end, c.loop-node-test.false) in
    subst (λ k. AreOnceTo c.args.props.now k c.loop-node.list.items) whole c.loop-node.invariant
