use Rattle.std.proofs.Common.{◌∙◌, sym, arith}
use Rattle.rdl_bind.proofs.Targeting.{all-items, one-item}
use Rattle.rdl_bind.proofs.target_table.node_targets.Goals as goal

pub loop-each-preserved : goal.loop-each-preserved
loop-each-preserved c = λ e ys clean numbers named have.
    one-item e c.args.named.now ys named have c.loop-each.each-index _ c.loop-each-test.true c.loop-each.targets.items c.push.new.self.items c.in-Some.item (c.loop-each.invariant e ys clean numbers named have)
    (λ i is has. sym c.in-Some.is ∙ c.number.ensures e i clean numbers is has) c.in_ok-push.ensures.items

pub returns : goal.returns
returns c = λ e ys clean numbers named have.
    all-items e c.args.named.now ys named c.loop-each.each-index (omega (arith, c.loop-each-test.false)) c.loop-each.targets.items (c.loop-each.invariant e ys clean numbers named have)
