use Rattle.std.proofs.Common.{◌∙◌, None, Some, ap, refl, subst, sym}
use Rattle.std.specs.Option.{option_copied}
use Rattle.rdl_facts.specs.Greatest.{IsGreatest}
use Rattle.rdl_facts.specs.Table.{entries_meant}
use Rattle.rdl_facts.proofs.Along.{left_more, meant_here}
use Rattle.rdl_facts.proofs.table.EnumNumbers.greatest.Goals as goal

pub loop-number-preserved-in_default : goal.loop-number-preserved-in_default
loop-number-preserved-in_default c = left_more c.args.self.now c.args.numbers.now c.args.name.now c.loop-number.number-index 0 None c.loop-number-test.true (sym c.body.ensures ∙ ap option_copied c.in_default.is) refl c.loop-number.invariant

pub returns-in-Some-number : goal.returns-in-Some-number
returns-in-Some-number c = λ bodies around are named.
    subst (λ g. IsGreatest g (entries_meant around c.args.name.now)) (sym c.greatest.ensures)
    (meant_here c.args.self.now c.args.numbers.now c.args.name.now c.loop-number.number-index 0 c.in-Some.body.now c.in-Some-number.of c.loop-number-test.true (sym c.body.ensures ∙ ap option_copied c.in-Some.is) (sym c.number.ensures ∙ c.in-Some-number.is) c.loop-number.invariant bodies around are named)

pub loop-number-preserved : goal.loop-number-preserved
loop-number-preserved c =
    left_more c.args.self.now c.args.numbers.now c.args.name.now c.loop-number.number-index 0 (Some c.in-Some.body.now) c.loop-number-test.true (sym c.body.ensures ∙ ap option_copied c.in-Some.is) (sym c.number.ensures ∙ c.in_default-number.is) c.loop-number.invariant
