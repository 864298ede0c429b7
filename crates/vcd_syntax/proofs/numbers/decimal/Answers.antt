use Rattle.std.proofs.Common.{◌+◌, ◌*◌, take, ◌∙◌, sym, ap}
use Rattle.std.specs.Str.Parse.{digits_value}
use Rattle.std.proofs.lemmas.Int.Digits.{digits_value_more}
use Rattle.vcd_syntax.specs.Numbers.{within}
use Rattle.vcd_syntax.proofs.numbers.decimal.Goals as goal

pub loop-b-preserved : goal.loop-b-preserved
loop-b-preserved c =
    let text = c.args.digits.now in
    let i = c.loop-b.b-index in
    c.with_digit-number.ensures _ c.loop-b.invariant ∙ ap (within 64) (ap (λ d. digits_value 10 (take i text) * 10 + d) c.digit_of.ensures ∙ sym (digits_value_more 10 text i c.loop-b-test.true))
