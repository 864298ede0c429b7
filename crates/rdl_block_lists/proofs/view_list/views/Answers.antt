use Rattle.std.proofs.Common.{◌∙◌, flat_map, map, ap, subst, arith}
use Rattle.std.proofs.lemmas.List.{length-map}
use Rattle.rdl_tree.specs.declared.item.Kind.TheVariants as kinds
use Rattle.rdl_values.specs.Lineages.{Lineage, lineages_of, nodes_in}
use Rattle.rdl_layers.specs.Fields.{fields_of, is_a}
use Rattle.rdl_nodes.proofs.Members.{get-map}
use Rattle.rdl_sizes.proofs.Facts.{rows-many}
use Rattle.rdl_sizes.proofs.Turns.{read-at}
use Rattle.rdl_fields.proofs.Lists.{filter-all}
use Rattle.rdl_rules.specs.Fields.{view_of}
use Rattle.rdl_block_lists.specs.Standing.{IsRowOf}
use Rattle.rdl_block_lists.proofs.Viewing.{joined-more, row-of}
use Rattle.rdl_block_lists.proofs.view_list.views.Goals as goal

pub add_register-requires-clause-row : goal.add_register-requires-clause-row
add_register-requires-clause-row c =
    let rows = c.args.known.rows.now in
    let r = row-of c.args.known.props.now rows c.requires.known.rows_ c.loop-at.at c.index-known-at.result (read-at rows c.loop-at.at c.index-known-at.result c.loop-at-test.true c.index-known-at.is) in
    (r.0, subst (λ x. IsRowOf c.args.known.props.now x r.0) c.index-known-at.is r.2)

pub loop-at-preserved : goal.loop-at-preserved
loop-at-preserved c =
    let e = c.args.known.props.now in
    let rows = c.args.known.rows.now in
    let at = c.loop-at.at in
    let r = row-of e rows c.requires.known.rows_ at c.index-known-at.result (read-at rows at c.index-known-at.result c.loop-at-test.true c.index-known-at.is) in
    joined-more (λ n. map (view_of (lineages_of e) n) (fields_of n)) (is_a kinds.Reg) (nodes_in (lineages_of e)) at r.0.node (get-map (λ (l : Lineage). l.node) (lineages_of e) at r.0 r.1) c.loop-at.list.items c.add_register.new.list.items c.loop-at.invariant (c.in_ok-add_register.ensures r.0 (subst (λ x. IsRowOf e x r.0) c.index-known-at.is r.2))

pub returns : goal.returns
returns c =
    let e = c.args.known.props.now in
    let many = rows-many e c.args.known.rows.now c.requires.known.rows_ in
    let long = length-map (lineages_of e) (λ (l : Lineage). l.node) in
    c.loop-at.invariant ∙ ap (flat_map (λ n. map (view_of (lineages_of e) n) (fields_of n))) (filter-all (is_a kinds.Reg) (nodes_in (lineages_of e)) c.loop-at.at (omega (arith, many, long, c.loop-at-test.false)))
