use Rattle.std.proofs.Common.{arith, ap, ◌∙◌}
use Rattle.std.specs.Option.{option_map}
use Rattle.v_lexer.specs.Reading.{as_constant}
use Rattle.v_lexer.proofs.Digits.{constant_fits, constant_too_large}
use Rattle.v_lexer.proofs.numbers.constant.Goals as goal

pub returns-in_err-value-in-len1-up : goal.returns-in_err-value-in-len1-up
returns-in_err-value-in-len1-up c = ap (option_map as_constant) c.from_residual-in_err-value-in-len1-up.ensures
    ∙ constant_too_large _ c.in_ok-width.width c.in_ok-base-in-len1-up.base c.args.based.now c.in_ok-width.ensures.1 c.if-width-gt128.false c.in-len1-up.len_at_least c.in_ok-base-in-len1-up.ensures.value c.in_err-value-in-len1-up.ensures

pub returns-else-value-ones : goal.returns-else-value-ones
returns-else-value-ones c = constant_fits _ c.in_ok-width.width c.in_ok-base-in-len1-up.base c.in_ok-value-in-len1-up.value c.args.based.now c.in_ok-width.ensures.1 c.if-width-eq0.false c.if-width-gt128.false c.in-len1-up.len_at_least c.in_ok-base-in-len1-up.ensures.value
    c.in_ok-value-in-len1-up.ensures.1 (omega (arith, c.if-value-ones.false, c.ones.ensures))
