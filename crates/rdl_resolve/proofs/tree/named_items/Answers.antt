use Rattle.std.proofs.Common.{sym, ap, subst, arith}
use Rattle.rdl_values.specs.Elaboration.{IsClean}
use Rattle.rdl_props.specs.Table.{reference_props}
use Rattle.rdl_resolve.specs.Named.{AddsAims}
use Rattle.rdl_resolve.proofs.Walking.{all-nodes, node-here, node-more}
use Rattle.rdl_resolve.proofs.tree.named_items.Goals as goal

pub loop-node-preserved : goal.loop-node-preserved
loop-node-preserved c =
    let e = c.args.props.now in
    let clean = subst IsClean (sym c.requires.tree) c.requires.known.clean in
    let count = ap (λ y. y.count) c.requires.tree in
    let n = node-here e clean c.loop-node.node (omega (arith, c.loop-node-test.true, count)) in
    let adds = subst (λ xs. AddsAims e n.0 reference_props xs c.add_node.new.items.items c.loop-node.faults.items c.add_node.new.faults.items) c.new-named.ensures.items (c.in_ok-add_node.ensures n.0 n.1) in
    node-more e c.loop-node.node n.0 n.1 c.loop-node.items.items c.push.new.self.items c.add_node.new.items c.loop-node.faults.items c.add_node.new.faults.items c.loop-node.invariant adds c.in_ok-push.ensures.items

pub returns : goal.returns
returns c =
    let e = c.args.props.now in
    let clean = subst IsClean (sym c.requires.tree) c.requires.known.clean in
    let count = ap (λ y. y.count) c.requires.tree in
    all-nodes e clean (record { items = c.loop-node.items; faults = c.loop-node.faults }) c.loop-node.node (omega (arith, c.loop-node-test.false, count)) (omega (arith, c.loop-node.auto.node-end, count)) c.loop-node.invariant
