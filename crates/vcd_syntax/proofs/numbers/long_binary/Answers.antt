use Rattle.std.proofs.Common.{◌+◌, ◌*◌, take, ◌∙◌, sym, ap}
use Rattle.std.specs.Str.Parse.{digits_value}
use Rattle.std.proofs.lemmas.Int.Digits.{digits_value_more}
use Rattle.vcd_syntax.specs.Numbers.{within}
use Rattle.vcd_syntax.proofs.numbers.long_binary.Goals as goal

pub loop-b-preserved : goal.loop-b-preserved
loop-b-preserved c =
    let text = c.args.digits.now in
    let i = c.loop-b.b-index in
    c.with_bit-number.ensures _ c.loop-b.invariant ∙ ap (within 128) (ap (λ d. digits_value 2 (take i text) * 2 + d) c.digit_of.ensures ∙ sym (digits_value_more 2 text i c.loop-b-test.true))
