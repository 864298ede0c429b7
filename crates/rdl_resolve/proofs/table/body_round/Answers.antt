use Rattle.std.proofs.Common.{◌≡◌, ◌∙◌, ◌∷◌, inl, inr, Some, length, refl, slice_get, sym, arith}
use Rattle.rdl_tree.specs.declared.node.Node.{out-Node}
use Rattle.rdl_values.specs.Seen.{around_of}
use Rattle.rdl_layers.specs.Scoped.{bodies_of}
use Rattle.rdl_resolve.proofs.Chained.{above, has-row, if-none, parent-chain, round-parent, round-root, too-deep}
use Rattle.rdl_resolve.proofs.table.body_round.Goals as goal

pub returns-in_default-clause-body : goal.returns-in_default-clause-body
returns-in_default-clause-body c = λ e l clean are root row here before.
    round-root e clean c.args.rows.now are c.args.row.now l row here c.texts_in_bodies.ensures.signals_ c.texts_in_bodies.ensures.top c.in_default.is c.args.root root c.args.outers.now

pub returns-clause-body : goal.returns-clause-body
returns-clause-body c = λ e l clean are root row here before.
    let rows = c.args.rows.now in
    let x = c.args.row.now in
    let outers = c.args.outers.now in
    let i = (out-Node x.node.now).id in
    let p = c.in-Some.parent in
    let q = above e clean rows are x l row here p c.in-Some.is outers before in
    let y = c.in_ok-above.above in
    let at : slice_get rows p ≡ Some y = sym c.row_of.ensures ∙ c.in_ok-above.was in
    round-parent e clean rows are x l row here p c.in-Some.is outers before c.texts_in_bodies.ensures.children_ y at c.in_ok-own.own c.in_ok-round.round c.in_ok-bodies.bodies c.in_ok-own.ensures.depth c.in_ok-round.ensures.depth c.in_ok-bodies.ensures.some c.outward.result
    (c.outward.ensures e i (Some q.0.node.path ∷ bodies_of q.0.node.closure.scope) root (parent-chain e clean rows are x l row here p c.in-Some.is outers before))

pub returns-in_err-above-clause-none : goal.returns-in_err-above-clause-none
returns-in_err-above-clause-none c = if-none c.from_residual.result _ (λ e l clean are row here. absurd (has-row e clean c.args.rows.now are c.args.row.now l row here c.in-Some.parent c.in-Some.is (sym c.row_of.ensures ∙ c.in_err-above.was)))

pub returns-in_err-own-clause-none : goal.returns-in_err-own-clause-none
returns-in_err-own-clause-none c = if-none c.from_residual-in_err-own.result _ (λ e l clean are row here.
    let y = c.in_ok-above.above in
    let at : slice_get c.args.rows.now c.in-Some.parent ≡ Some y = sym c.row_of.ensures ∙ c.in_ok-above.was in
    too-deep e clean c.args.rows.now are c.args.row.now l row here c.texts_in_bodies.ensures.children_ c.in-Some.parent c.in-Some.is y at (length (around_of (out-Node c.args.row.now.node.now).env.now)) refl (length (around_of (out-Node y.node.now).env.now)) refl
    (inl c.in_err-own.ensures.none))

pub returns-in_err-round-clause-none : goal.returns-in_err-round-clause-none
returns-in_err-round-clause-none c = if-none c.from_residual-in_err-round.result _ (λ e l clean are row here.
    let y = c.in_ok-above.above in
    let at : slice_get c.args.rows.now c.in-Some.parent ≡ Some y = sym c.row_of.ensures ∙ c.in_ok-above.was in
    let many = c.in_err-round.ensures.none in
    too-deep e clean c.args.rows.now are c.args.row.now l row here c.texts_in_bodies.ensures.children_ c.in-Some.parent c.in-Some.is y at (length (around_of (out-Node c.args.row.now.node.now).env.now)) refl (length (around_of (out-Node y.node.now).env.now)) refl
    (inr (inl (omega (arith, many)))))

pub returns-in_err-bodies-clause-none : goal.returns-in_err-bodies-clause-none
returns-in_err-bodies-clause-none c = if-none c.from_residual-in_err-bodies.result _ (λ e l clean are row here.
    let y = c.in_ok-above.above in
    let at : slice_get c.args.rows.now c.in-Some.parent ≡ Some y = sym c.row_of.ensures ∙ c.in_ok-above.was in
    too-deep e clean c.args.rows.now are c.args.row.now l row here c.texts_in_bodies.ensures.children_ c.in-Some.parent c.in-Some.is y at c.in_ok-own.own c.in_ok-own.ensures.depth c.in_ok-round.round c.in_ok-round.ensures.depth
    (inr c.in_err-bodies.ensures.none))
