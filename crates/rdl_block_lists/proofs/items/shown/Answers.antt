use Rattle.std.proofs.Common.{◌∙◌, ◌∷◌, [], sym, ap, arith}
use Rattle.rdl_tree.specs.declared.node.Node.{out-Node}
use Rattle.rdl_nodes.specs.declared.table.Row.{Row}
use Rattle.rdl_values.specs.Elaborated.{nodes_of}
use Rattle.rdl_values.specs.Instances.{kind_of}
use Rattle.rdl_values.specs.Lineages.{Lineage, lineages_of}
use Rattle.rdl_nodes.proofs.Members.{get-read}
use Rattle.rdl_sizes.proofs.Facts.{count-is, row-at, rows-many}
use Rattle.rdl_sizes.proofs.Turns.{read-at}
use Rattle.rdl_block_numbers.specs.Numbers.{own_number}
use Rattle.rdl_block_lists.proofs.Meant.{item-below, item-node, own-in, same-lineage}
use Rattle.rdl_block_lists.proofs.Turned.{aliased-none, there-one}
use Rattle.rdl_block_lists.proofs.items.shown.Goals as goal

pub returns-then-is_in_alias : goal.returns-then-is_in_alias
returns-then-is_in_alias c = λ i at.
    let e = c.args.known.props.now in
    aliased-none (lineages_of e) i (sym (c.is_in_alias.ensures e i c.requires.known.clean c.requires.known.rows_ at) ∙ c.if-is_in_alias.true)

pub bounds-known-item : goal.bounds-known-item
bounds-known-item c =
    let e = c.args.known.props.now in
    let low = item-below e c.requires.item.0 c.args.item c.requires.item.1 in
    let many = rows-many e c.args.known.rows.now c.requires.known.rows_ in
    omega (arith, low, many)

pub bounds-known-item-2 : goal.bounds-known-item-2
bounds-known-item-2 c =
    let e = c.args.known.props.now in
    let low = item-below e c.requires.item.0 c.args.item c.requires.item.1 in
    let count = count-is e c.requires.known.clean in
    let many = c.requires.known.own_.many in
    omega (arith, low, count, many)

pub returns : goal.returns
returns c = λ i at.
    let e = c.args.known.props.now in
    let x = c.args.item in
    let low = item-below e i x at in
    let many = rows-many e c.args.known.rows.now c.requires.known.rows_ in
    let count = count-is e c.requires.known.clean in
    let r = row-at e c.args.known.rows.now c.requires.known.rows_ x.node c.index-known-item.result (read-at c.args.known.rows.now x.node c.index-known-item.result (omega (arith, low, many)) c.index-known-item.is) in
    let same = same-lineage e x.node r.0 (record { node = i.node; ancestors = i.ancestors }) r.1 at.here in
    let kind = ap (λ (y : Row). (out-Node y.node.now).kind) (sym c.index-known-item.is) ∙ r.2.says.kind ∙ ap (λ (l : Lineage). kind_of l.node) same in
    let number = get-read c.args.known.own.now x.node 0 (own_number (nodes_of e) i.node) (c.requires.known.own_.each x.node i.node (omega (arith, low, count)) (item-node e i x at)) ∙ own-in e i.node in
    ap (λ y. y ∷ []) (c.ref_to.ensures (lineages_of e) i kind at.what_ number)
    ∙ there-one (lineages_of e) i (sym (c.is_missing.ensures i at) ∙ c.if-is_missing.false) (sym (c.is_in_alias.ensures e i c.requires.known.clean c.requires.known.rows_ at) ∙ c.if-is_in_alias.false)
