use Rattle.std.proofs.Common.{◌≡◌, subst, arith}
use Rattle.rdl_fields.specs.Touched.{AreTouches}
use Rattle.rdl_fields.proofs.Growing.{one-more}
use Rattle.rdl_fields.proofs.list.own_touches.Goals as goal

pub loop-node-preserved : goal.loop-node-preserved
loop-node-preserved c = one-more c.args.props.now c.loop-node.node c.loop-node.list.items c.push.new.self.items c.touches.result c.loop-node.invariant c.in_ok-push.ensures.items c.touches.ensures

pub returns : goal.returns
returns c =
    let whole : c.loop-node.node ≡ c.args.count = omega (arith, c.loop-node.auto.node-end, c.loop-node-test.false) in
    subst (λ k. AreTouches c.args.props.now k c.loop-node.list.items) whole c.loop-node.invariant
