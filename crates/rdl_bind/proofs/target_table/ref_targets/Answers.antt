use Rattle.std.proofs.Common.{sym, subst, arith, ◌≡◌}
use Rattle.rdl_values.specs.Elaborated.{nodes_of}
use Rattle.rdl_resolve.specs.Named.{AreItemsNamed}
use Rattle.rdl_bind.specs.Targeted.{AreTargetsTo}
use Rattle.rdl_bind.proofs.Targeting.{one-node}
use Rattle.rdl_bind.proofs.target_table.ref_targets.Goals as goal

pub loop-node-preserved : goal.loop-node-preserved
loop-node-preserved c =
    let e = c.args.elab.now in
    one-node e c.requires.clean c.args.named.now c.requires.named c.loop-node.node c.index-named-node.result c.loop-node-test.true c.loop-node.targets.items c.push.new.self.items c.in_ok-numbered.numbered c.loop-node.invariant
    (λ ys named have. c.in_ok-numbered.ensures e ys c.requires.clean c.requires.numbers (subst (λ xs. AreItemsNamed (nodes_of e) xs ys) (sym c.deref.ensures.value) (subst (λ v. AreItemsNamed (nodes_of e) v.items ys) (sym c.index-named-node.is) named)) have) c.in_ok-push.ensures.items

pub returns : goal.returns
returns c =
    let many = c.requires.named.many in
    let whole : c.loop-node.node ≡ c.args.elab.now.count = omega (arith, many, c.loop-node.auto.node-end, c.loop-node-test.false) in
    subst (λ k. AreTargetsTo c.args.elab.now k c.loop-node.targets.items) whole c.loop-node.invariant
