use Rattle.std.proofs.Common.{◌∙◌, ◌∷◌, filter, take, sym, ap, subst, arith}
use Rattle.rdl_tree.specs.declared.item.Kind.TheVariants as kinds
use Rattle.rdl_tree.specs.declared.node.Node.{out-Node}
use Rattle.rdl_tree.specs.Kinds.{same_kind}
use Rattle.rdl_values.specs.Instances.{children}
use Rattle.rdl_values.specs.Lineages.{lineages_of}
use Rattle.rdl_layers.specs.Fields.{is_a}
use Rattle.rdl_nodes.proofs.Members.{place-in}
use Rattle.rdl_sizes.proofs.Facts.{node-at}
use Rattle.rdl_sizes.proofs.Turns.{as-many, inside-at, read-at}
use Rattle.rdl_fields.proofs.Fields.{AreIn, added-in, views-are}
use Rattle.rdl_fields.proofs.Lists.{filter-all, filter-next}
use Rattle.rdl_fields.proofs.view.views_in.Goals as goal

pub add_view-requires : goal.add_view-requires
add_view-requires c = λ field.
    let e = c.args.map.now in
    let l = c.requires.0 in
    let body = c.requires.1 in
    let rs = (out-Node c.args.node.now).children.now in
    let r = c.child-item.result in
    let is = inside-at (lineages_of e) (l.node ∷ l.ancestors) rs rs (children l.node) body.inside c.loop-child.child-index r (read-at rs c.loop-child.child-index r c.loop-child-test.true c.child-item.is) in
    (is.0, node-at e (out-Node r).id (record { node = is.0; ancestors = l.node ∷ l.ancestors }) is.2.here, ap (same_kind kinds.Field) (sym is.2.says.kind) ∙ field)

pub loop-child-preserved : goal.loop-child-preserved
loop-child-preserved c = λ l body.
    let e = c.args.map.now in
    let rs = (out-Node c.args.node.now).children.now in
    let i = c.loop-child.child-index in
    let r = c.child-item.result in
    let is = inside-at (lineages_of e) (l.node ∷ l.ancestors) rs rs (children l.node) body.inside i r (read-at rs i r c.loop-child-test.true c.child-item.is) in
    let here = node-at e (out-Node r).id (record { node = is.0; ancestors = l.node ∷ l.ancestors }) is.2.here in
    subst (AreIn e l.node c.add_view.new.views.items) (sym (filter-next (is_a kinds.Field) (children l.node) i is.0 is.1))
    (added-in e body.number l is.0 r rs c.loop-child.views.items c.add_view.new.views.items (filter (is_a kinds.Field) (take i (children l.node))) body.here (place-in (children l.node) i is.0 is.1) here is.2.says c.in_ok-add_view.ensures (c.loop-child.invariant l body))

pub returns : goal.returns
returns c = λ l body.
    let e = c.args.map.now in
    let rs = (out-Node c.args.node.now).children.now in
    let many = as-many (lineages_of e) (l.node ∷ l.ancestors) rs rs (children l.node) body.inside in
    let all = subst (AreIn e l.node c.loop-child.views.items) (filter-all (is_a kinds.Field) (children l.node) c.loop-child.child-index (omega (arith, many, c.loop-child-test.false))) (c.loop-child.invariant l body) in
    views-are e body.number l c.loop-child.views.items body.here all
