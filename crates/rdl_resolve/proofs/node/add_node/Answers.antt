use Rattle.std.proofs.Common.{sym, subst, take}
use Rattle.rdl_props.specs.Table.{reference_props}
use Rattle.rdl_resolve.specs.Named.{AddsAims}
use Rattle.rdl_resolve.proofs.Adding.{at-node, one-added, props-all, props-next-of}
use Rattle.rdl_resolve.proofs.node.add_node.Goals as goal

pub loop-prop-preserved : goal.loop-prop-preserved
loop-prop-preserved c = λ n here.
    let e = c.args.props.now in
    let i = c.loop-prop.prop-index in
    let aim = at-node e c.args.known.elab.now c.requires.tree n c.args.node here _ c.value-setting.result c.value-setting.ensures c.in_ok-aim.aim c.in_ok-aim.ensures in
    let added = one-added e n (take i reference_props) _ c.in_ok-aim.aim c.args.items.now.items c.loop-prop.items.items c.add_aim.new.items.items c.args.faults.now.items c.loop-prop.faults.items c.add_aim.new.faults.items (c.loop-prop.invariant n here) aim c.in_ok-add_aim.ensures in
    subst (λ ps. AddsAims e n ps c.args.items.now.items c.add_aim.new.items.items c.args.faults.now.items c.add_aim.new.faults.items) (sym (props-next-of _ c.reference_props-list.ensures i _ c.loop-prop-test.true)) added

pub returns : goal.returns
returns c = λ n here.
    subst (λ ps. AddsAims c.args.props.now n ps c.args.items.now.items c.loop-prop.items.items c.args.faults.now.items c.loop-prop.faults.items) (props-all c.loop-prop.prop-index c.loop-prop-test.false) (c.loop-prop.invariant n here)
