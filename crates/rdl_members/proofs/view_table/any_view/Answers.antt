use Rattle.std.proofs.Common.{◌<◌, length, refl, arith}
use Rattle.rdl_nodes.proofs.Members.{get-made}
use Rattle.rdl_sizes.proofs.Facts.{count-is, row-at, rows-many}
use Rattle.rdl_sizes.proofs.Turns.{read-at}
use Rattle.rdl_members.proofs.Marking.{all-marked, none-yet, one-marked, written-back}
use Rattle.rdl_members.proofs.view_table.any_view.Goals as goal

pub loop-at-init : goal.loop-at-init
loop-at-init c = none-yet c.args.elab.now c.args.own.now c.in_ok-marks.marks.items (c.in_ok-marks.ensures.items_if_clones_equal (λ x y e. e))

pub bounds-own-at : goal.bounds-own-at
bounds-own-at c =
    let many = rows-many c.args.elab.now c.args.rows.now c.requires.rows in
    let count = count-is c.args.elab.now c.requires.clean in
    let sized = c.requires.sized in
    omega (arith, c.loop-at-test.true, many, count, sized)

pub loop-at-preserved : goal.loop-at-preserved
loop-at-preserved c =
    let e = c.args.elab.now in
    let rows = c.args.rows.now in
    let at = c.loop-at.at in
    let x = c.index-rows-at.result in
    let many = rows-many e rows c.requires.rows in
    let count = count-is e c.requires.clean in
    let sized = c.requires.sized in
    let low : at < length c.args.own.now = omega (arith, c.loop-at-test.true, many, count, sized) in
    let r = row-at e rows c.requires.rows at x (read-at rows at x c.loop-at-test.true c.index-rows-at.is) in
    one-marked e c.args.own.now at r.0 r.1 c.loop-at.marks.items c.loop-at.invariant _ (get-made c.args.own.now at _ _ low refl) c.over_if-over.result
    (λ k l s kept. c.over_if-over.ensures.covered e at k r.0 l s c.requires.clean c.requires.rows c.in_ok-members.ensures r.1 r.2 kept) _
    (written-back c.loop-at.marks.len c.loop-at.marks.items c.deref_mut.result.now c.mark.new.marks c.over_if-over.result c.loop-at.marks.ok.0 c.deref_mut.ensures.value c.mark.ensures)

pub returns : goal.returns
returns c = λ test are.
    let many = rows-many c.args.elab.now c.args.rows.now c.requires.rows in
    all-marked c.args.elab.now c.args.own.now c.requires.sized c.loop-at.at (omega (arith, many, c.loop-at-test.false)) c.loop-at.marks.items c.loop-at.invariant test are
