use Rattle.std.proofs.Common.{◌∙◌, arith}
use Rattle.rdl_lexer.proofs.Values.{no_digit_at, too_large_at, ends_with}
use Rattle.rdl_lexer.proofs.numbers.value_of.Goals as goal

pub returns-in_err-digit : goal.returns-in_err-digit
returns-in_err-digit c = c.from_residual.ensures ∙ no_digit_at c.args.bits c.args.base c.loop-b.value c.args.run.now c.loop-b.b-index c.from.result (omega arith) c.loop-b-test.true c.if-b-ne95.true c.from.ensures c.in_err-digit.ensures.value c.loop-b.invariant

pub returns-in_err-with_digit : goal.returns-in_err-with_digit
returns-in_err-with_digit c = c.from_residual-in_err-with_digit.ensures ∙ too_large_at c.args.bits c.args.base c.loop-b.value c.args.run.now c.loop-b.b-index c.from.result c.unwrap_or.result c.in_ok-digit.digit (omega arith) c.loop-b-test.true c.if-b-ne95.true c.from.ensures c.unwrap_or.ensures c.in_ok-digit.ensures.value.1 c.in_err-with_digit.ensures c.loop-b.invariant

pub returns : goal.returns
returns c = ends_with c.args.bits c.args.base c.loop-b.value c.args.run.now c.loop-b.b-index (omega arith) c.loop-b-test.false c.loop-b.invariant
