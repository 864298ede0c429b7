use Rattle.std.proofs.Common.{◌^◌, arith, ◌∙◌}
use Rattle.v_lexer.proofs.Digits.{product_too_large, sum_too_large, sum_is}
use Rattle.v_lexer.proofs.numbers.value_of.Goals as goal

pub returns-in_err-checked_mul : goal.returns-in_err-checked_mul
returns-in_err-checked_mul c = rw c.from_residual.ensures (λ h. omega (arith, h, product_too_large c.args.base c.from.result c.loop-b.value c.loop-b.b-index (2 ^ 128) c.args.digits.now (omega arith) c.loop-b-test.true c.loop-b.invariant.is c.from.ensures c.in_err-checked_mul.ensures))

pub returns-in_err-value : goal.returns-in_err-value
returns-in_err-value c = rw c.from_residual-in_err-value.ensures (λ h. omega (
  arith,
  h,
  sum_too_large c.args.base c.from.result c.loop-b.value c.in_ok-checked_mul.field-0 c.from-in-loop-b.result c.loop-b.b-index (2 ^ 128) c.args.digits.now (omega arith) c.loop-b-test.true c.loop-b.invariant.is c.from.ensures
      c.in_ok-checked_mul.ensures.1 (c.from-in-loop-b.ensures ∙ c.digit_of.ensures) c.in_err-value.ensures,
))

pub loop-b-preserved : goal.loop-b-preserved
loop-b-preserved c = record {
  is = sum_is c.args.base c.from.result c.loop-b.value c.in_ok-checked_mul.field-0 c.from-in-loop-b.result c.in_ok-value.value c.loop-b.b-index c.args.digits.now c.loop-b-test.true c.loop-b.invariant.is c.from.ensures
      c.in_ok-checked_mul.ensures.1 (c.from-in-loop-b.ensures ∙ c.digit_of.ensures) c.in_ok-value.ensures.1;
  fits = omega (arith, c.in_ok-value.ensures);
}
