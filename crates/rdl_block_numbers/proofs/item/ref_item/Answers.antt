use Rattle.std.proofs.Common.{◌∙◌, Some, ap, arith}
use Rattle.rdl_values.specs.Elaborated.{nodes_of}
use Rattle.rdl_values.specs.Instances.{kind_of}
use Rattle.rdl_values.specs.Lineages.{Lineage, lineages_of}
use Rattle.rdl_nodes.proofs.Members.{get-read}
use Rattle.rdl_sizes.proofs.Facts.{count-is, row-at, rows-many}
use Rattle.rdl_sizes.proofs.Turns.{read-at}
use Rattle.rdl_block_numbers.specs.Numbers.{own_number}
use Rattle.rdl_block_numbers.proofs.Meant.{item-below, item-node, named-none, named-one, node-here, own-in, same-lineage}
use Rattle.rdl_block_numbers.proofs.item.ref_item.Goals as goal

pub returns-in_default : goal.returns-in_default
returns-in_default c = λ n at. named-none c.args.refs.now n c.args.prop c.named_item.result c.in_default.is (c.named_item.ensures n at)

pub bounds-rows-item : goal.bounds-rows-item
bounds-rows-item c =
    let e = c.args.refs.now in
    let n = node-here e c.requires.clean c.args.node c.requires.node in
    let k = named-one e n.0 c.args.prop c.named_item.result c.in-Some.item c.in-Some.is (c.named_item.ensures n.0 n.1) in
    let low = item-below e k.it c.in-Some.item k.at in
    let many = rows-many e c.args.rows.now c.requires.rows in
    omega (arith, low, many)

pub bounds-own-item : goal.bounds-own-item
bounds-own-item c =
    let e = c.args.refs.now in
    let n = node-here e c.requires.clean c.args.node c.requires.node in
    let k = named-one e n.0 c.args.prop c.named_item.result c.in-Some.item c.in-Some.is (c.named_item.ensures n.0 n.1) in
    let low = item-below e k.it c.in-Some.item k.at in
    let count = count-is e c.requires.clean in
    omega (arith, low, count, c.requires.own.many)

pub returns : goal.returns
returns c = λ n at.
    let e = c.args.refs.now in
    let x = c.in-Some.item in
    let k = named-one e n c.args.prop c.named_item.result x c.in-Some.is (c.named_item.ensures n at) in
    let i = k.it in
    let low = item-below e i x k.at in
    let many = rows-many e c.args.rows.now c.requires.rows in
    let count = count-is e c.requires.clean in
    let r = row-at e c.args.rows.now c.requires.rows x.node c.index-rows-item.result (read-at c.args.rows.now x.node c.index-rows-item.result (omega (arith, low, many)) c.index-rows-item.is) in
    let same = same-lineage e x.node r.0 (record { node = i.node; ancestors = i.ancestors }) r.1 k.at.here in
    let kind = r.2.says.kind ∙ ap (λ (l : Lineage). kind_of l.node) same in
    let number = get-read c.args.own.now x.node 0 (own_number (nodes_of e) i.node) (c.requires.own.each x.node i.node (omega (arith, low, count)) (item-node e i x k.at)) ∙ own-in e i.node in
    ap Some (c.ref_to.ensures (lineages_of e) i kind k.at.what_ number) ∙ k.says
