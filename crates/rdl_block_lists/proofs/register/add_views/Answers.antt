use Rattle.std.proofs.Common.{◌∙◌, ◌∷◌, ◌++◌, map, sym, ap, arith, append-nil}
use Rattle.rdl_tree.specs.declared.item.Kind.TheVariants as kinds
use Rattle.rdl_tree.specs.declared.node.Node.{out-Node}
use Rattle.rdl_values.specs.Instances.{children}
use Rattle.rdl_values.specs.Lineages.{child_of, lineages_of}
use Rattle.rdl_layers.specs.Fields.{is_a}
use Rattle.rdl_fields.proofs.Lists.{filter-all}
use Rattle.rdl_nodes.proofs.Members.{get-within}
use Rattle.rdl_sizes.proofs.Facts.{count-is}
use Rattle.rdl_sizes.proofs.Turns.{as-many, inside-at, read-at}
use Rattle.rdl_rules.specs.Fields.{view_of}
use Rattle.rdl_block_lists.proofs.Viewing.{mapped-more, tells-alias}
use Rattle.rdl_block_lists.proofs.register.add_views.Goals as goal

pub loop-child-init : goal.loop-child-init
loop-child-init c = λ l at. sym (append-nil c.args.list.now.items)

pub add_view-requires-clause-node : goal.add_view-requires-clause-node
add_view-requires-clause-node c =
    let e = c.args.known.props.now in
    let l = c.requires.row.0 in
    let h = c.requires.row.1 in
    let rs = (out-Node c.args.row.now.node.now).children.now in
    let r = c.child-item.result in
    let m = inside-at (lineages_of e) (l.node ∷ l.ancestors) rs rs (children l.node) h.row.inside c.loop-child.child-index r (read-at rs c.loop-child.child-index r c.loop-child-test.true c.child-item.is) in
    let low = get-within (lineages_of e) (out-Node r).id (child_of l m.0) m.2.here in
    let count = count-is e c.requires.known.clean in
    omega (arith, low, count)

pub loop-child-preserved : goal.loop-child-preserved
loop-child-preserved c = λ l at.
    let e = c.args.known.props.now in
    let rs = (out-Node c.args.row.now.node.now).children.now in
    let x = c.child-item.result in
    let i = c.loop-child.child-index in
    let m = inside-at (lineages_of e) (l.node ∷ l.ancestors) rs rs (children l.node) at.row.inside i x (read-at rs i x c.loop-child-test.true c.child-item.is) in
    let alias = c.is_some-is_alias.ensures ∙ tells-alias e l.node c.primary.result (c.primary.ensures e (out-Node c.args.row.now.node.now).id l c.requires.known.clean at.here at.row) in
    mapped-more (view_of (lineages_of e) l.node) (is_a kinds.Field) (children l.node) i m.0 m.1 c.args.list.now.items c.loop-child.list.items c.add_view.new.list.items (c.loop-child.invariant l at)
    (c.in_ok-add_view.ensures l m.0 m.2.here m.2.says.kind alias)

pub returns : goal.returns
returns c = λ l at.
    let e = c.args.known.props.now in
    let rs = (out-Node c.args.row.now.node.now).children.now in
    let many = as-many (lineages_of e) (l.node ∷ l.ancestors) rs rs (children l.node) at.row.inside in
    c.loop-child.invariant l at ∙ ap (λ cs. c.args.list.now.items ++ map (view_of (lineages_of e) l.node) cs) (filter-all (is_a kinds.Field) (children l.node) c.loop-child.child-index (omega (arith, many, c.loop-child-test.false)))
