use Rattle.std.proofs.Common.{◌≡◌, ◌∙◌, ◌+◌, Some, length, slice_get, sym, subst, arith}
use Rattle.rdl_values.specs.Lineages.{lineages_of}
use Rattle.rdl_nodes.specs.Rows.{IsRow}
use Rattle.rdl_nodes.proofs.Members.{get-made}
use Rattle.rdl_sizes.proofs.Begun.{number-is}
use Rattle.rdl_sizes.proofs.Facts.{row-at, rows-many}
use Rattle.rdl_bits.specs.declared.table.BitTable.{BitTable}
use Rattle.rdl_bits.specs.Tabled.{AreBitsTo}
use Rattle.rdl_bits.proofs.Registers.{none-known}
use Rattle.rdl_bits.proofs.table.bit_table.Goals as goal

pub add_row-requires-clause-row : goal.add_row-requires-clause-row
add_row-requires-clause-row c =
    let i = c.loop-at.at in
    let x = c.index-rows-at.result in
    let r = row-at c.args.props.now c.args.rows.now c.requires.rows i x (get-made c.args.rows.now i x x c.loop-at-test.true (sym c.index-rows-at.is)) in
    let id = sym r.2.number in
    (r.0, subst (λ k. slice_get (lineages_of c.args.props.now) k ≡ Some r.0) id r.1, subst (λ k. IsRow c.args.props.now (lineages_of c.args.props.now) k x r.0) id r.2)

pub add_row-requires-clause-before : goal.add_row-requires-clause-before
add_row-requires-clause-before c =
    let id = number-is c.args.props.now c.args.rows.now c.requires.rows c.loop-at.at c.index-rows-at.result c.loop-at-test.true c.index-rows-at.is in
    subst (λ k. AreBitsTo c.args.props.now k c.loop-at.table) (sym id) c.loop-at.invariant

pub loop-at-preserved : goal.loop-at-preserved
loop-at-preserved c =
    let id = number-is c.args.props.now c.args.rows.now c.requires.rows c.loop-at.at c.index-rows-at.result c.loop-at-test.true c.index-rows-at.is in
    subst (λ k. AreBitsTo c.args.props.now (k + 1) c.add_row.new.table) id c.in_ok-add_row.ensures

pub loop-at-init : goal.loop-at-init
loop-at-init c =
    let many = rows-many c.args.props.now c.args.rows.now c.requires.rows in
    let long : length c.in_ok-vec.field-0.items ≡ length (lineages_of c.args.props.now) = sym c.in_ok-vec.field-0.ok.0 ∙ (c.in_ok-vec.ensures.len ∙ many) in
    let table : BitTable = record { bits = c.in_ok-vec.field-0; faults = c.new.result } in
    none-known c.args.props.now table long c.new.ensures.items

pub returns : goal.returns
returns c =
    let many = rows-many c.args.props.now c.args.rows.now c.requires.rows in
    let all : c.loop-at.at ≡ length (lineages_of c.args.props.now) = omega (arith, many, c.loop-at-test.false, c.loop-at.auto.at-end) in
    subst (λ k. AreBitsTo c.args.props.now k c.loop-at.table) all c.loop-at.invariant
