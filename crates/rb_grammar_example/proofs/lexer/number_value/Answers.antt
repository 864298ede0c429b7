use Rattle.std.proofs.Common.{◌≡◌, arith}
use Rattle.std.proofs.lemmas.Grind.{common_steps}
use Rattle.std.specs.Str.Parse.{digits_value}
use Rattle.rb_grammar_example.proofs.Digits.{value_more, too_large}
use Rattle.rb_grammar_example.proofs.lexer.number_value.Goals as goal

pub returns-in_err-checked_mul : goal.returns-in_err-checked_mul
returns-in_err-checked_mul c = rw c.from_residual.ensures (λ h. omega (arith, h, too_large c.loop-b.value c.loop-b.b-index c.args.text.now c.loop-b-test.true c.requires c.loop-b.invariant.is (omega (arith, c.in_err-checked_mul.ensures))))

pub returns-in_err-value : goal.returns-in_err-value
returns-in_err-value c = rw c.from_residual-in_err-value.ensures (λ h. omega (arith, h, too_large c.loop-b.value c.loop-b.b-index c.args.text.now c.loop-b-test.true c.requires c.loop-b.invariant.is (omega (arith, c.in_err-value.ensures, c.from.ensures, c.in_ok-checked_mul.ensures))))

pub loop-b-preserved : goal.loop-b-preserved
loop-b-preserved c = record {
  is = omega (arith, value_more c.loop-b.value c.loop-b.b-index c.args.text.now c.loop-b-test.true c.requires c.loop-b.invariant.is, c.in_ok-value.ensures, c.from.ensures, c.in_ok-checked_mul.ensures);
  fits = omega (arith, c.in_ok-value.ensures);
}

pub returns : goal.returns
returns c = let e : c.loop-b.value ≡ digits_value 10 c.args.text.now = grind (arith, common_steps) in (omega (arith, e, c.loop-b.invariant.fits), e)
