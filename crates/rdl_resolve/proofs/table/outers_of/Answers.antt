use Rattle.std.proofs.Common.{◌≡◌, Some, slice_get, refl, sym, subst, arith}
use Rattle.rdl_tree.specs.declared.node.Node.{out-Node}
use Rattle.rdl_values.specs.Lineages.{lineages_of}
use Rattle.rdl_nodes.proofs.Members.{get-made}
use Rattle.rdl_sizes.proofs.Facts.{row-at, rows-many}
use Rattle.rdl_layers.specs.Scoped.{bodies_of}
use Rattle.rdl_resolve.specs.Outers.{AreOutersTo, IsChainBelow}
use Rattle.rdl_resolve.proofs.Chained.{all-outers, outers-more}
use Rattle.rdl_resolve.proofs.table.outers_of.Goals as goal

pub loop-at-preserved : goal.loop-at-preserved
loop-at-preserved c =
    let e = c.args.elab.now in
    let rows = c.args.rows.now in
    let i = c.loop-at.at in
    let x = c.index-rows-at.result in
    let at = get-made rows i x x c.loop-at-test.true (sym c.index-rows-at.is) in
    let r = row-at e rows c.requires.rows i x at in
    let id : i ≡ (out-Node x.node.now).id = sym r.2.number in
    let before = subst (λ os. AreOutersTo e i os) (sym c.deref.ensures.value) c.loop-at.invariant in
    let chain = c.in-Some.ensures.body e r.0 c.requires.clean c.requires.rows refl (subst (λ k. slice_get rows k ≡ Some x) id at) (subst (λ k. slice_get (lineages_of e) k ≡ Some r.0) id r.1) (subst (λ k. AreOutersTo e k c.deref.result.now) id before) in
    outers-more e c.loop-at.outers.items c.push.new.self.items i c.in-Some.outer r.0 r.1 c.loop-at.invariant
    (subst (λ os. IsChainBelow e os i (bodies_of r.0.node.closure.scope) c.in-Some.outer) c.deref.ensures.value (subst (λ k. IsChainBelow e c.deref.result.now k (bodies_of r.0.node.closure.scope) c.in-Some.outer) (sym id) chain)) c.in_ok-push.ensures.items

pub returns : goal.returns
returns c =
    let many = rows-many c.args.elab.now c.args.rows.now c.requires.rows in
    all-outers c.args.elab.now c.loop-at.outers.items c.loop-at.at (omega (arith, many, c.loop-at-test.false)) c.loop-at.invariant
