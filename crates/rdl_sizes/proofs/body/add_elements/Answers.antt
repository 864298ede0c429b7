use Rattle.std.proofs.Common.{◌≡◌, ◌+◌, ◌++◌, arith}
use Rattle.rdl_sizes.specs.Elements.{elements}
use Rattle.rdl_sizes.proofs.Laying.{one-element}
use Rattle.rdl_sizes.proofs.body.add_elements.Goals as goal

pub loop-each-preserved : goal.loop-each-preserved
loop-each-preserved c =
    let next : c.in-Some.next ≡ c.loop-each.at + c.args.step = omega (arith, c.in-Some.ensures) in
    one-element c.loop-each.starts.items c.push-in-loop-each.new.self.items (c.args.starts.now.items ++ elements c.args.start c.args.step (c.args.others + 1)) c.loop-each.at c.args.step c.args.others c.loop-each.each c.in-Some.next c.loop-each-test.true next c.in_ok-push-2.ensures.items c.loop-each.invariant
