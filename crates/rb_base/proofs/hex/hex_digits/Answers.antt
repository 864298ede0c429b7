use Rattle.std.proofs.Common.{◌≡◌, ◌+◌, ◌-◌, ◌<◌, ◌≤◌, ◌^◌, length, ◌∙◌, arith, length-set}
use Rattle.rb_base.proofs.Hexadecimal.{hex_start, enough, less_left, hex_step, hex_last}
use Rattle.rb_base.proofs.hex.hex_digits.Goals as goal

pub loop-left-init : goal.loop-left-init
loop-left-init c = record {
  some = omega arith;
  within = omega arith;
  count = c.told-bytes;
  fits = omega (arith, c.ranges.number.fits);
  digits = hex_start c.args.number c.args.bytes.now c.told-bytes;
}

pub overflow_sub-at : goal.overflow_sub-at
overflow_sub-at c = omega arith

pub bounds-bytes-at : goal.bounds-bytes-at
bounds-bytes-at c = omega arith

pub loop-left-preserved : goal.loop-left-preserved
loop-left-preserved c =
    let l = c.loop-left in
    let i = l.invariant in
    let two : 2 ≤ l.at = enough l.at l.left c.loop-left-test.true i.fits in record {
      some = omega arith;
      within = omega arith;
      count = length-set l.bytes (l.at - 1) c.hex_digit.result ∙ i.count;
      fits = less_left l.at l.left i.some i.fits;
      digits = hex_step l.at l.left l.bytes i.some (omega arith) c.loop-left-test.true c.hex_digit.result c.hex_digit.ensures ∙ i.digits;
    }

pub overflow_sub-at-2 : goal.overflow_sub-at-2
overflow_sub-at-2 c = omega arith

pub returns-clause-digits : goal.returns-clause-digits
returns-clause-digits c =
    let l = c.loop-left in
    hex_last l.at l.left l.bytes l.invariant.some (omega arith) (omega arith) c.hex_digit-2.result c.hex_digit-2.ensures ∙ l.invariant.digits
