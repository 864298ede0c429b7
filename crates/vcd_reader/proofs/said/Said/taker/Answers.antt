use Rattle.std.specs.Str.Parse.{digits_value}
use Rattle.std.proofs.Common.{◌≡◌, Option, ℕ, List, drop, refl, ap, sym, ◌∙◌, subst}
use Rattle.vcd_syntax.specs.declared.error.VcdError.TheVariants as error
use Rattle.vcd_syntax.specs.Numbers.{within}
use Rattle.vcd_reader.specs.declared.variables.Given.TheVariants as change
use Rattle.vcd_reader.specs.Reading.{TellsVerdict}
use Rattle.vcd_reader.proofs.Taking.{taker_goes, taker_told}
use Rattle.vcd_reader.proofs.said.Said.taker.Goals as goal

value_is : (value : Option ℕ) (tail last word : List ℕ) → value ≡ within 128 (digits_value 2 tail) → tail ≡ drop 1 last → last ≡ word → value ≡ within 128 (digits_value 2 (drop 1 word))
value_is value tail last word e f g = e ∙ ap (λ z. within 128 (digits_value 2 z)) (f ∙ ap (drop 1) g)

pub returns-in-Taken-clause-on : goal.returns-in-Taken-clause-on
returns-in-Taken-clause-on c = λ k h.
    taker_goes c.args.self.now.variables c.give.new.self c.args.self.now.rows c.args.word.text.now c.binary-value.result k h.variables h.rows (h.whole refl) h.apart
    (value_is c.binary-value.result c.tail.result.now c.args.self.now.last.text.now k.word c.binary-value.ensures c.tail.ensures h.word) (sym c.in-Taken.ensures.given) c.in-Taken.ensures.gives

pub returns-in-Unknown-clause-fault : goal.returns-in-Unknown-clause-fault
returns-in-Unknown-clause-fault c = λ n k h.
    subst (λ z. TellsVerdict (error.Code c.args.word.place) z c.args.word.place.0 c.args.self.now.last.place.0)
    (sym (taker_told c.args.self.now.variables k c.args.word.text.now c.binary-value.result change.Unknown h.variables (h.whole refl)
    (value_is c.binary-value.result c.tail.result.now c.args.self.now.last.text.now k.word c.binary-value.ensures c.tail.ensures h.word) c.in-Unknown.ensures.given)) (refl, refl)

pub returns-in-Unfit-clause-fault : goal.returns-in-Unfit-clause-fault
returns-in-Unfit-clause-fault c = λ n k h.
    subst (λ z. TellsVerdict (error.Value c.args.self.now.last.place) z c.args.word.place.0 c.args.self.now.last.place.0)
    (sym (taker_told c.args.self.now.variables k c.args.word.text.now c.binary-value.result change.Unfit h.variables (h.whole refl)
    (value_is c.binary-value.result c.tail.result.now c.args.self.now.last.text.now k.word c.binary-value.ensures c.tail.ensures h.word) c.in-Unfit.ensures.given)) (refl, refl)
