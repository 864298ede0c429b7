use Rattle.std.proofs.Common.{◌∙◌, ap, sym}
use Rattle.std.specs.Option.{option_copied}
use Rattle.rdl_encodings.proofs.Along.{left_more, meant_here, no_body, none_left}
use Rattle.rdl_encodings.proofs.enums.Enums.find.Goals as goal

pub returns-in_default : goal.returns-in_default
returns-in_default c = λ bodies around are named. absurd (no_body c.args.self.now c.args.numbers.now c.args.name.now c.loop-number.number-index 0 c.loop-number-test.true c.loop-number.invariant (sym c.body.ensures ∙ ap option_copied c.in_default.is) bodies around are named)

pub returns-in-Some-number : goal.returns-in-Some-number
returns-in-Some-number c = λ bodies around are named.
    meant_here c.args.self.now c.args.numbers.now c.args.name.now c.loop-number.number-index 0 c.in-Some.body.now c.in-Some-number.within c.loop-number-test.true (sym c.body.ensures ∙ ap option_copied c.in-Some.is) (sym c.number.ensures ∙ c.in-Some-number.is) c.loop-number.invariant bodies around are named

pub loop-number-preserved : goal.loop-number-preserved
loop-number-preserved c = left_more c.args.self.now c.args.numbers.now c.args.name.now c.loop-number.number-index 0 c.in-Some.body.now c.loop-number-test.true (sym c.body.ensures ∙ ap option_copied c.in-Some.is) (sym c.number.ensures ∙ c.in_default-number.is) c.loop-number.invariant

pub returns : goal.returns
returns c = λ bodies around are named. none_left c.args.self.now c.args.numbers.now c.args.name.now c.loop-number.number-index c.loop-number-test.false c.loop-number.invariant bodies around are named
