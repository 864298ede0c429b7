use Rattle.std.proofs.Common.{◌≡◌, ◌+◌, ◌<◌, Some, length, slice_get, refl, sym, subst, arith}
use Rattle.rdl_values.specs.Lineages.{lineages_of}
use Rattle.rdl_nodes.specs.Rows.{IsRow}
use Rattle.rdl_nodes.proofs.Members.{get-made}
use Rattle.rdl_sizes.proofs.Begun.{number-is}
use Rattle.rdl_sizes.proofs.Facts.{row-at, rows-many}
use Rattle.rdl_bits.specs.Found.{AreRegistersTo}
use Rattle.rdl_bits.proofs.Listed.{all-taken, none-taken}
use Rattle.rdl_bits.proofs.list.registers.Goals as goal

pub bounds-addresses-at : goal.bounds-addresses-at
bounds-addresses-at c =
    let many = rows-many c.args.props.now c.args.rows.now c.requires.rows in
    let long = c.requires.addresses.many in
    omega (arith, c.loop-at-test.true, many, long)

pub add_register-requires-clause-row : goal.add_register-requires-clause-row
add_register-requires-clause-row c =
    let e = c.args.props.now in
    let i = c.loop-at.at in
    let x = c.index-rows-at.result in
    let r = row-at e c.args.rows.now c.requires.rows i x (get-made c.args.rows.now i x x c.loop-at-test.true (sym c.index-rows-at.is)) in
    let id = sym r.2.number in
    let low = (let many = rows-many e c.args.rows.now c.requires.rows in let long = c.requires.addresses.many in let test : i < length c.args.addresses.now = omega (arith, c.loop-at-test.true, many, long) in test) in
    (r.0, subst (λ k. slice_get (lineages_of e) k ≡ Some r.0) id r.1, x, refl, subst (λ k. IsRow e (lineages_of e) k x r.0) id r.2, λ placed. c.requires.addresses.first.areas i r.0 low r.1 placed)

pub add_register-requires-clause-before : goal.add_register-requires-clause-before
add_register-requires-clause-before c =
    let id = number-is c.args.props.now c.args.rows.now c.requires.rows c.loop-at.at c.index-rows-at.result c.loop-at-test.true c.index-rows-at.is in
    subst (λ k. AreRegistersTo c.args.props.now k c.loop-at.registers.items) (sym id) c.loop-at.invariant

pub loop-at-init : goal.loop-at-init
loop-at-init c = none-taken c.args.props.now c.new-registers.result.items c.new-registers.ensures.items

pub loop-at-preserved : goal.loop-at-preserved
loop-at-preserved c =
    let id = number-is c.args.props.now c.args.rows.now c.requires.rows c.loop-at.at c.index-rows-at.result c.loop-at-test.true c.index-rows-at.is in
    subst (λ k. AreRegistersTo c.args.props.now (k + 1) c.add_register.new.registers.items) id c.in_ok-add_register.ensures

pub returns : goal.returns
returns c =
    let many = rows-many c.args.props.now c.args.rows.now c.requires.rows in
    all-taken c.args.props.now c.loop-at.registers.items c.loop-at.at c.loop-at.invariant (omega (arith, many, c.loop-at-test.false))
