use Rattle.std.proofs.Common.{◌∙◌, ◌∷◌, ◌++◌, map, sym, ap, arith, append-nil}
use Rattle.rdl_tree.specs.declared.item.Kind.TheVariants as kinds
use Rattle.rdl_tree.specs.declared.node.Node.{out-Node}
use Rattle.rdl_tree.specs.Kinds.{same_kind}
use Rattle.rdl_values.specs.Instances.{children}
use Rattle.rdl_values.specs.Lineages.{child_of, lineages_of}
use Rattle.rdl_layers.specs.Fields.{is_a}
use Rattle.rdl_fields.proofs.Lists.{filter-all}
use Rattle.rdl_nodes.proofs.Members.{get-within, place-in}
use Rattle.rdl_sizes.proofs.Facts.{count-is}
use Rattle.rdl_sizes.proofs.Turns.{as-many, inside-at, read-at}
use Rattle.rdl_feeds.specs.Narrow.{AreNarrow}
use Rattle.rdl_rules.specs.Fields.{field_of}
use Rattle.rdl_field_list.proofs.Telling.{at-most-one, mapped-more, narrow-child, not-alias}
use Rattle.rdl_field_list.proofs.register.add_fields.Goals as goal

pub loop-child-init : goal.loop-child-init
loop-child-init c = λ r at is. sym (append-nil c.args.list.now.items)

pub add_field-requires-clause-node : goal.add_field-requires-clause-node
add_field-requires-clause-node c =
    let e = c.args.known.props.now in
    let l = c.requires.row.0 in
    let h = c.requires.row.1 in
    let rs = (out-Node c.args.row.now.node.now).children.now in
    let r = c.child-item.result in
    let m = inside-at (lineages_of e) (l.node ∷ l.ancestors) rs rs (children l.node) h.of.row.inside c.loop-child.child-index r (read-at rs c.loop-child.child-index r c.loop-child-test.true c.child-item.is) in
    let low = get-within (lineages_of e) (out-Node r).id (child_of l m.0) m.2.here in
    let count = count-is e c.requires.known.clean in
    omega (arith, low, count)

pub add_field-requires-clause-register : goal.add_field-requires-clause-register
add_field-requires-clause-register c =
    let e = c.args.known.props.now in
    let low = get-within (lineages_of e) (out-Node c.args.row.now.node.now).id c.requires.row.0 c.requires.row.1.of.here in
    let count = count-is e c.requires.known.clean in
    omega (arith, low, count)

pub add_field-requires-clause-narrow : goal.add_field-requires-clause-narrow
add_field-requires-clause-narrow c = λ field n here.
    let e = c.args.known.props.now in
    let l = c.requires.row.0 in
    let h = c.requires.row.1 in
    let rs = (out-Node c.args.row.now.node.now).children.now in
    let r = c.child-item.result in
    let i = c.loop-child.child-index in
    let m = inside-at (lineages_of e) (l.node ∷ l.ancestors) rs rs (children l.node) h.of.row.inside i r (read-at rs i r c.loop-child-test.true c.child-item.is) in
    at-most-one AreNarrow e (out-Node r).id l m.0 n m.2.here here
    (narrow-child e c.requires.narrow (out-Node c.args.row.now.node.now).id l h.of.here h.primary m.0 (place-in (children l.node) i m.0 m.1) (ap (same_kind kinds.Field) (sym m.2.says.kind) ∙ field))

pub loop-child-preserved : goal.loop-child-preserved
loop-child-preserved c = λ r at is.
    let e = c.args.known.props.now in
    let l = r.register in
    let rs = (out-Node c.args.row.now.node.now).children.now in
    let x = c.child-item.result in
    let i = c.loop-child.child-index in
    let m = inside-at (lineages_of e) (l.node ∷ l.ancestors) rs rs (children l.node) at.of.row.inside i x (read-at rs i x c.loop-child-test.true c.child-item.is) in
    mapped-more (field_of e.source.now (lineages_of e) r) (is_a kinds.Field) (children l.node) i m.0 m.1 c.args.list.now.items c.loop-child.list.items c.add_field.new.list.items (c.loop-child.invariant r at is)
    (c.in_ok-add_field.ensures r m.0 (record { above = at.of.here; here = m.2.here; no_alias = not-alias l.node at.primary }) m.2.says.kind is)

pub returns : goal.returns
returns c = λ r at is.
    let e = c.args.known.props.now in
    let l = r.register in
    let rs = (out-Node c.args.row.now.node.now).children.now in
    let many = as-many (lineages_of e) (l.node ∷ l.ancestors) rs rs (children l.node) at.of.row.inside in
    c.loop-child.invariant r at is ∙ ap (λ cs. c.args.list.now.items ++ map (field_of e.source.now (lineages_of e) r) cs) (filter-all (is_a kinds.Field) (children l.node) c.loop-child.child-index (omega (arith, many, c.loop-child-test.false)))
