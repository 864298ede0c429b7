use Rattle.std.proofs.Common.{◌≡◌, ◌∙◌, ◌+◌, ◌-◌, ◌<◌, length, subst, ap, arith}
use Rattle.rdl_tree.specs.declared.node.Node.{out-Node}
use Rattle.rdl_addr.specs.Parts.{mode_of}
use Rattle.rdl_sizes.specs.Sized.{AreSizesFrom}
use Rattle.rdl_sizes.proofs.Begun.{next-row, nothing-known, number-is}
use Rattle.rdl_sizes.proofs.Facts.{rows-many}
use Rattle.rdl_sizes.proofs.table.sizes.Goals as goal

pub loop-at-init : goal.loop-at-init
loop-at-init c =
    let many = rows-many c.args.props.now c.args.rows.now c.requires.rows in
    nothing-known c.args.props.now c.in_ok-sizes.sizes (length c.args.rows.now) (length c.args.rows.now) c.in_ok-sizes.ensures many many

pub add_row-requires-clause-row : goal.add_row-requires-clause-row
add_row-requires-clause-row c =
    let low : c.loop-at.at - 1 < length c.args.rows.now = omega (arith, c.loop-at-test.true, c.loop-at.auto.at) in
    let r = next-row c.args.props.now c.args.rows.now c.requires.rows c.in_ok-modes.modes.items c.in_ok-modes.ensures.many c.in_ok-modes.ensures.modes (c.loop-at.at - 1) c.index-rows-at.result low c.index-rows-at.is c.index-mode.result.now in
    (r.0, r.1, r.2, ap mode_of c.index-mode.ensures ∙ r.3)

pub add_row-requires-clause-behind : goal.add_row-requires-clause-behind
add_row-requires-clause-behind c =
    let low : c.loop-at.at - 1 < length c.args.rows.now = omega (arith, c.loop-at-test.true, c.loop-at.auto.at) in
    let id = number-is c.args.props.now c.args.rows.now c.requires.rows (c.loop-at.at - 1) c.index-rows-at.result low c.index-rows-at.is in
    let next : c.loop-at.at ≡ (out-Node c.index-rows-at.result.node.now).id + 1 = omega (arith, c.loop-at-test.true, id) in
    subst (λ k. AreSizesFrom c.args.props.now k c.loop-at.sizes) next c.loop-at.invariant

pub loop-at-preserved : goal.loop-at-preserved
loop-at-preserved c =
    let low : c.loop-at.at - 1 < length c.args.rows.now = omega (arith, c.loop-at-test.true, c.loop-at.auto.at) in
    let id = number-is c.args.props.now c.args.rows.now c.requires.rows (c.loop-at.at - 1) c.index-rows-at.result low c.index-rows-at.is in
    subst (λ k. AreSizesFrom c.args.props.now k c.add_row.new.sizes) id c.in_ok-add_row.ensures

pub returns : goal.returns
returns c = let zero : c.loop-at.at ≡ 0 = omega (arith, c.loop-at-test.false) in subst (λ k. AreSizesFrom c.args.props.now k c.loop-at.sizes) zero c.loop-at.invariant
