use Rattle.std.proofs.Common.{◌∙◌, ap, arith, map}
use Rattle.rdl_values.specs.Elaborated.{nodes_of}
use Rattle.rdl_sizes.proofs.Facts.{nodes-many, rows-many}
use Rattle.rdl_fields.proofs.Lists.{filter-all}
use Rattle.rdl_notes.specs.Groups.{behind, once}
use Rattle.rdl_notes.specs.Notes.{group_of, is_group}
use Rattle.rdl_notes.proofs.Growing.{folded-more}
use Rattle.rdl_notes.proofs.Rows.{row-of}
use Rattle.rdl_notes.proofs.groups.groups_with.Goals as goal

pub add_node-requires-clause-low : goal.add_node-requires-clause-low
add_node-requires-clause-low c = (row-of c.args.props.now c.requires.clean c.args.rows.now c.requires.rows c.loop-row.row-index c.row-item.result c.loop-row-test.true c.row-item.is).3.low

pub loop-row-preserved : goal.loop-row-preserved
loop-row-preserved c =
    let e = c.args.props.now in
    let i = c.loop-row.row-index in
    let r = row-of e c.requires.clean c.args.rows.now c.requires.rows i c.row-item.result c.loop-row-test.true c.row-item.is in
    record {
      groups = folded-more behind group_of is_group (nodes_of e) i r.0.node r.1 c.loop-row.list.items c.add_node.new.list.items c.loop-row.invariant.groups (c.in_ok-add_node.ensures.listed r.0.node r.3.here r.3.kind_);
      seen = c.in_ok-add_node.ensures.seen;
    }

pub returns : goal.returns
returns c =
    let e = c.args.props.now in
    let many = rows-many e c.args.rows.now c.requires.rows in
    let all = nodes-many e in
    c.loop-row.invariant.groups ∙ ap (λ ns. once (map group_of ns)) (filter-all is_group (nodes_of e) c.loop-row.row-index (omega (arith, many, all, c.loop-row-test.false)))
