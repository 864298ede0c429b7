use Rattle.std.proofs.Common.{◌≡◌, ◌∙◌, ◌+◌, ◌-◌, ◌<◌, ◌≤◌, ◌∷◌, length, sym, subst, ap, refl, arith}
use Rattle.rdl_tree.specs.declared.node.Node.{out-Node}
use Rattle.rdl_values.specs.Instances.{children}
use Rattle.rdl_values.specs.Lineages.{lineages_of}
use Rattle.rdl_sizes.proofs.Facts.{row-at, rows-many}
use Rattle.rdl_sizes.proofs.Turns.{read-at}
use Rattle.rdl_meaning_rules.specs.Filled.{AreFilledFrom}
use Rattle.rdl_meaning_rules.proofs.Rows.{filled-more, inside-below, none-filled}
use Rattle.rdl_meaning_rules.proofs.filled.filled_nodes.Goals as goal

pub loop-at-init : goal.loop-at-init
loop-at-init c = λ e h.
    let a = c.in_ok-filled.ensures.len in
    let b = c.in_ok-filled.filled.ok.0 in
    let m = rows-many e c.args.rows.now h in
    none-filled e c.in_ok-filled.filled.items (length c.args.rows.now) (omega (arith, a, b, m)) (omega (arith, m))

pub is_filled-value-requires : goal.is_filled-value-requires
is_filled-value-requires c = λ k d low.
    let e = c.requires.0 in
    let h = c.requires.1 in
    let less : c.loop-at.at - 1 < length c.args.rows.now = omega (arith, c.loop-at-test.true, c.loop-at.auto.at) in
    let r = row-at e c.args.rows.now h (c.loop-at.at - 1) c.index-rows-at.result (read-at c.args.rows.now (c.loop-at.at - 1) c.index-rows-at.result less c.index-rows-at.is) in
    let rs = (out-Node c.index-rows-at.result.node.now).children.now in
    let in_list = inside-below e (r.0.node ∷ r.0.ancestors) rs (children r.0.node) r.2.inside k d low in
    let many = (c.loop-at.invariant e h).many in
    let value = ap length c.deref.ensures.value in
    omega (arith, in_list, many, value)

pub loop-at-preserved : goal.loop-at-preserved
loop-at-preserved c = λ e h.
    let i = c.loop-at.at - 1 in
    let less : i < length c.args.rows.now = omega (arith, c.loop-at-test.true, c.loop-at.auto.at) in
    let r = row-at e c.args.rows.now h i c.index-rows-at.result (read-at c.args.rows.now i c.index-rows-at.result less c.index-rows-at.is) in
    let next : c.loop-at.at ≡ i + 1 = omega (arith, c.loop-at-test.true) in
    let before = subst (λ k. AreFilledFrom e k c.loop-at.filled.items) next (c.loop-at.invariant e h) in
    let many = rows-many e c.args.rows.now h in
    let low : i < length c.loop-at.filled.items = (let m = before.many in omega (arith, less, many, m)) in
    let is = c.is_filled-value.ensures e i r.0 r.1 r.2.says.kind r.2.inside (subst (AreFilledFrom e (i + 1)) (sym c.deref.ensures.value) before) in
    filled-more e i r.0 c.loop-at.filled.items _ c.is_filled-value.result r.1 before is refl low
