use Rattle.std.proofs.Common.{◌≡◌, ◌∙◌, true, sym, ap, arith}
use Rattle.rdl_tree.specs.declared.item.Kind.TheVariants as kinds
use Rattle.rdl_tree.specs.declared.node.Node.{out-Node}
use Rattle.rdl_nodes.specs.declared.table.Row.{Row}
use Rattle.rdl_tree.specs.Kinds.{same_kind}
use Rattle.rdl_values.specs.Elaborated.{nodes_of}
use Rattle.rdl_values.specs.Lineages.{lineages_of}
use Rattle.rdl_layers.specs.Fields.{is_a, views}
use Rattle.rdl_sizes.proofs.Facts.{rows-many}
use Rattle.rdl_ref_items.proofs.Items.{known-row}
use Rattle.rdl_bind.proofs.Fielded.{above, no-wire, touched-is, wire-is}
use Rattle.rdl_bind.proofs.Items.{as-item-at, node-counted, node-here, node-low}
use Rattle.rdl_bind.proofs.fields.is_wire_field.Goals as goal

pub bounds-known-item : goal.bounds-known-item
bounds-known-item c =
    let e = c.args.known.props.now in
    let low = node-low e c.requires.item.0 c.args.item c.requires.item.1 in
    let many = rows-many e c.args.known.rows.now c.requires.known.rows_ in
    omega (arith, low, many)

pub returns-then-not-is_field : goal.returns-then-not-is_field
returns-then-not-is_field c = λ i is out.
    let e = c.args.known.props.now in
    let r = known-row e c.args.known.rows.now c.requires.known.rows_ i c.args.item (as-item-at e i c.args.item is) c.index-known-item.result c.index-known-item.is in
    no-wire (lineages_of e) i (ap (same_kind kinds.Field) (sym r.says.kind) ∙ (ap (λ (y : Row). same_kind kinds.Field (out-Node y.node.now).kind) c.index-known-item.is ∙ (sym c.is_field.ensures ∙ c.if-not-is_field.true)))

pub bounds-known-item-2 : goal.bounds-known-item-2
bounds-known-item-2 c =
    let e = c.args.known.props.now in
    let low = node-counted e c.requires.known.clean c.args.item.node c.requires.item.0.node (node-here e c.requires.item.0 c.args.item c.requires.item.1) in
    let many = c.requires.known.touched_.many in
    omega (arith, low, many)

pub is_wire-requires : goal.is_wire-requires
is_wire-requires c =
    let e = c.args.known.props.now in
    node-counted e c.requires.known.clean c.args.item.node c.requires.item.0.node (node-here e c.requires.item.0 c.args.item c.requires.item.1)

pub returns : goal.returns
returns c = λ i is out.
    let e = c.args.known.props.now in
    let r = known-row e c.args.known.rows.now c.requires.known.rows_ i c.args.item (as-item-at e i c.args.item is) c.index-known-item.result c.index-known-item.is in
    let field : is_a kinds.Field i.node ≡ true = ap (same_kind kinds.Field) (sym r.says.kind) ∙ (ap (λ (y : Row). same_kind kinds.Field (out-Node y.node.now).kind) c.index-known-item.is ∙ (sym c.is_field.ensures ∙ c.if-not-is_field.false)) in
    let vs = views (nodes_of e) (above e c.args.item.node i is.here field out).0 i.node in
    wire-is e c.args.item.node i is.here field out c.is_wire.result (c.is_wire.ensures i.node vs (node-here e i c.args.item is) (touched-is e c.args.item.node i is.here field out c.args.known.touched.now c.requires.known.touched_ _))
