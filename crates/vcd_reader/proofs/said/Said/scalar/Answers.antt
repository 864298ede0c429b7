use Rattle.std.proofs.Common.{refl, sym, subst}
use Rattle.vcd_syntax.specs.declared.error.VcdError.TheVariants as error
use Rattle.vcd_reader.specs.declared.variables.Given.TheVariants as change
use Rattle.vcd_reader.specs.Reading.{TellsVerdict}
use Rattle.vcd_reader.proofs.Taking.{scalar_goes, scalar_told}
use Rattle.vcd_reader.proofs.said.Said.scalar.Goals as goal

pub returns-in-Taken-clause-on : goal.returns-in-Taken-clause-on
returns-in-Taken-clause-on c = λ k h.
    scalar_goes c.args.self.now.variables c.give.new.self c.args.self.now.rows c.args.word.text.now c.tail.result.now c.bit_value-value.result k h.variables h.rows (h.whole refl) h.apart c.tail.ensures c.bit_value-value.ensures
    c.in-Taken.ensures.given c.in-Taken.ensures.gives

pub returns-in-Unknown-clause-fault : goal.returns-in-Unknown-clause-fault
returns-in-Unknown-clause-fault c = λ n k h.
    subst (λ z. TellsVerdict (error.Code c.args.word.place) z c.args.word.place.0 c.args.self.now.last.place.0)
    (sym (scalar_told c.args.self.now.variables k c.args.word.text.now c.tail.result.now c.bit_value-value.result change.Unknown h.variables (h.whole refl) c.tail.ensures c.bit_value-value.ensures c.in-Unknown.ensures.given)) (refl, refl)

pub returns-in-Unfit-clause-fault : goal.returns-in-Unfit-clause-fault
returns-in-Unfit-clause-fault c = λ n k h.
    subst (λ z. TellsVerdict (error.Value c.args.word.place) z c.args.word.place.0 c.args.self.now.last.place.0)
    (sym (scalar_told c.args.self.now.variables k c.args.word.text.now c.tail.result.now c.bit_value-value.result change.Unfit h.variables (h.whole refl) c.tail.ensures c.bit_value-value.ensures c.in-Unfit.ensures.given)) (refl, refl)
