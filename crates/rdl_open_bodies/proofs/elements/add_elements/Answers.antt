use Rattle.std.proofs.Common.{◌≡◌, ◌∙◌, arith}
use Rattle.std.proofs.Math.Nat.{min-le_left, min-le_right}
use Rattle.rdl_values.specs.Rows.{product}
use Rattle.rdl_open_bodies.proofs.Started.{elements_all, elements_more, elements_none}
use Rattle.rdl_open_bodies.proofs.elements.add_elements.Goals as goal

pub loop-number-init : goal.loop-number-init
loop-number-init c = λ e t p levels scope s h use_in of. elements_none e t c.args.child.now levels s h c.args.starts.now.items

pub add_element-requires : goal.add_element-requires
add_element-requires c =
    let at = c.loop-number-test.true in
    let total = c.count_of-total.ensures in
    let left = min-le_left (product c.args.child.now.dims.now) c.args.most in
    let right = min-le_right (product c.args.child.now.dims.now) c.args.most in
    let ok = c.ranges.most.fits in
    record { within = omega (arith, at, total, left); small = omega (arith, at, total, right, ok); deep = c.requires.deep }

pub loop-number-preserved : goal.loop-number-preserved
loop-number-preserved c = λ e t p levels scope s h use_in of.
    elements_more e t c.args.child.now levels c.loop-number.number s h c.args.starts.now.items c.loop-number.starts.items c.add_element.new.starts.items (c.loop-number.invariant e t p levels scope s h use_in of) (c.in_ok-add_element.ensures e t p levels scope s h use_in of)

pub returns : goal.returns
returns c = λ e t p levels scope s h use_in of few.
    let past = c.loop-number-test.false in
    let last : c.loop-number.number ≡ c.count_of-total.result = omega (arith, past) in
    elements_all e t c.args.child.now levels c.loop-number.number c.args.most s h c.args.starts.now.items c.loop-number.starts.items (c.rows_by_number.ensures c.args.child.now.dims.now) (last ∙ c.count_of-total.ensures) few (c.loop-number.invariant e t p levels scope s h use_in of)
