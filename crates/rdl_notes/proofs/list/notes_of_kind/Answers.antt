use Rattle.std.proofs.Common.{◌∙◌, [], map, ap, arith}
use Rattle.rdl_values.specs.Elaborated.{nodes_of}
use Rattle.rdl_layers.specs.Fields.{is_a}
use Rattle.rdl_sizes.proofs.Facts.{nodes-many, rows-many}
use Rattle.rdl_fields.proofs.Lists.{filter-all}
use Rattle.rdl_notes.specs.Notes.{note_of}
use Rattle.rdl_notes.proofs.Growing.{mapped-more}
use Rattle.rdl_notes.proofs.Rows.{row-of}
use Rattle.rdl_notes.proofs.list.notes_of_kind.Goals as goal

pub add_note-requires : goal.add_note-requires
add_note-requires c = (row-of c.args.props.now c.requires.clean c.args.rows.now c.requires.rows c.loop-row.row-index c.row-item.result c.loop-row-test.true c.row-item.is).3.low

pub loop-row-preserved : goal.loop-row-preserved
loop-row-preserved c =
    let e = c.args.props.now in
    let i = c.loop-row.row-index in
    let r = row-of e c.requires.clean c.args.rows.now c.requires.rows i c.row-item.result c.loop-row-test.true c.row-item.is in
    mapped-more note_of (is_a c.args.kind) (nodes_of e) i r.0.node r.1 [] c.loop-row.list.items c.add_note.new.list.items c.loop-row.invariant (c.in_ok-add_note.ensures r.0.node r.3.here r.3.kind_)

pub returns : goal.returns
returns c =
    let e = c.args.props.now in
    let many = rows-many e c.args.rows.now c.requires.rows in
    let all = nodes-many e in
    c.loop-row.invariant ∙ ap (map note_of) (filter-all (is_a c.args.kind) (nodes_of e) c.loop-row.row-index (omega (arith, many, all, c.loop-row-test.false)))
