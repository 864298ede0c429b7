use Rattle.std.proofs.Common.{◌∙◌, ◌<◌, filter, get_or, length, take, sym, ap, subst, arith}
use Rattle.std.proofs.lemmas.List.{take_all}
use Rattle.rdl_tree.specs.declared.item.Kind.TheVariants as kinds
use Rattle.rdl_tree.specs.declared.node.Node.{out-Node}
use Rattle.rdl_tree.specs.Kinds.{same_kind}
use Rattle.rdl_values.specs.Lineages.{lineages_of}
use Rattle.rdl_nodes.specs.declared.table.Row.{Row}
use Rattle.rdl_sizes.proofs.Facts.{count-is, rows-many}
use Rattle.rdl_sizes.proofs.Turns.{read-at}
use Rattle.rdl_field_list.specs.Own.{IsRowOf}
use Rattle.rdl_field_list.proofs.Listing.{among, behind, few-kept, is_register, listed-more, number-more, row-of}
use Rattle.rdl_field_list.proofs.list.fields_by.Goals as goal

pub bounds-known-at : goal.bounds-known-at
bounds-known-at c =
    let e = c.args.known.props.now in
    let many = rows-many e c.args.known.rows.now c.requires.known.rows_ in
    let count = count-is e c.requires.known.clean in
    omega (arith, many, count, c.requires.count, c.loop-at-test.true)

pub add_own-requires-clause-row : goal.add_own-requires-clause-row
add_own-requires-clause-row c =
    let rows = c.args.known.rows.now in
    let at = c.loop-at.at in
    let x = c.index-known-at.result in
    let e = c.args.known.props.now in
    let many = rows-many e rows c.requires.known.rows_ in
    let count = count-is e c.requires.known.clean in
    let low : at < length rows = omega (arith, many, count, c.requires.count, c.loop-at-test.true) in
    let r = row-of e rows c.requires.known.rows_ at x (read-at rows at x low c.index-known-at.is) in
    (r.0, subst (λ y. IsRowOf e y r.0) c.index-known-at.is r.2)

pub next_number-number-requires : goal.next_number-number-requires
next_number-number-requires c =
    let few = few-kept is_register (lineages_of c.args.known.props.now) c.loop-at.at in
    omega (arith, few, c.loop-at.invariant.number_, c.loop-at-test.true, c.ranges.count)

pub loop-at-preserved : goal.loop-at-preserved
loop-at-preserved c =
    let e = c.args.known.props.now in
    let at = c.loop-at.at in
    let x = c.index-known-at.result in
    let rows = c.args.known.rows.now in
    let many = rows-many e rows c.requires.known.rows_ in
    let count = count-is e c.requires.known.clean in
    let low : at < length rows = omega (arith, many, count, c.requires.count, c.loop-at-test.true) in
    let r = row-of e rows c.requires.known.rows_ at x (read-at rows at x low c.index-known-at.is) in
    let all = lineages_of e in
    let before = c.loop-at.invariant in
    let y = get_or rows at x in
    record {
      number_ = number-more all at r.0 r.1 c.loop-at.number c.next_number-number.result (same_kind kinds.Reg (out-Node y.node.now).kind) before.number_ (ap (λ (z : Row). same_kind kinds.Reg (out-Node z.node.now).kind) (sym c.index-known-at.is) ∙ ap (same_kind kinds.Reg) r.3) c.next_number-number.ensures;
      fields_ = listed-more e.source.now all all at r.0 r.1 c.loop-at.list.items c.add_own.new.list.items before.fields_ (c.in_ok-add_own.ensures (behind (filter is_register (take at all)) r.0) (subst (λ y. IsRowOf e y r.0) c.index-known-at.is r.2) before.number_);
    }

pub returns : goal.returns
returns c =
    let e = c.args.known.props.now in
    let count = count-is e c.requires.known.clean in
    c.loop-at.invariant.fields_ ∙ ap (among e.source.now (lineages_of e)) (take_all c.loop-at.at (lineages_of e) (omega (arith, count, c.requires.count, c.loop-at-test.false)))
