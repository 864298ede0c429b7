use Rattle.std.proofs.Common.{◌∙◌, flat_map, map, ap, arith}
use Rattle.rdl_tree.specs.declared.item.Kind.TheVariants as kinds
use Rattle.rdl_values.specs.Elaborated.{nodes_of}
use Rattle.rdl_layers.specs.Fields.{fields_of, is_a}
use Rattle.rdl_sizes.proofs.Facts.{nodes-many, rows-many}
use Rattle.rdl_fields.proofs.Lists.{filter-all}
use Rattle.rdl_notes.specs.Notes.{note_of}
use Rattle.rdl_notes.proofs.Growing.{joined-more}
use Rattle.rdl_notes.proofs.Rows.{row-of}
use Rattle.rdl_notes.proofs.list.view_notes.Goals as goal

pub add_views-requires-clause-row : goal.add_views-requires-clause-row
add_views-requires-clause-row c =
    let r = row-of c.args.props.now c.requires.clean c.args.rows.now c.requires.rows c.loop-row.row-index c.row-item.result c.loop-row-test.true c.row-item.is in
    (r.0, r.2)

pub loop-row-preserved : goal.loop-row-preserved
loop-row-preserved c =
    let e = c.args.props.now in
    let i = c.loop-row.row-index in
    let r = row-of e c.requires.clean c.args.rows.now c.requires.rows i c.row-item.result c.loop-row-test.true c.row-item.is in
    joined-more (λ n. map note_of (fields_of n)) (is_a kinds.Reg) (nodes_of e) i r.0.node r.1 c.loop-row.list.items c.add_views.new.list.items c.loop-row.invariant (c.in_ok-add_views.ensures r.0 r.2)

pub returns : goal.returns
returns c =
    let e = c.args.props.now in
    let many = rows-many e c.args.rows.now c.requires.rows in
    let all = nodes-many e in
    c.loop-row.invariant ∙ ap (flat_map (λ n. map note_of (fields_of n))) (filter-all (is_a kinds.Reg) (nodes_of e) c.loop-row.row-index (omega (arith, many, all, c.loop-row-test.false)))
