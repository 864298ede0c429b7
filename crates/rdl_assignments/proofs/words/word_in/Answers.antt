use Rattle.std.proofs.Common.{◌∙◌, option_map, sym, ap}
use Rattle.rdl_layers.specs.Forms.{named, from_word}
use Rattle.rdl_assignments.proofs.words.word_in.Goals as goal

pub returns-in-AddressingWord-clause-outcome : goal.returns-in-AddressingWord-clause-outcome
returns-in-AddressingWord-clause-outcome c = λ scope. c.named.ensures.outcome scope ∙ ap (option_map named) c.addressing_word.ensures ∙ ap (λ f. from_word f c.args.word) (sym c.in-AddressingWord.is)

pub returns-in-SwWord-clause-outcome : goal.returns-in-SwWord-clause-outcome
returns-in-SwWord-clause-outcome c = λ scope. c.named-in-SwWord.ensures.outcome scope ∙ ap (option_map named) c.sw_word.ensures ∙ ap (λ f. from_word f c.args.word) (sym c.in-SwWord.is)

pub returns-in-HwWord-clause-outcome : goal.returns-in-HwWord-clause-outcome
returns-in-HwWord-clause-outcome c = λ scope. c.named-in-HwWord.ensures.outcome scope ∙ ap (option_map named) c.hw_word.ensures ∙ ap (λ f. from_word f c.args.word) (sym c.in-HwWord.is)

pub returns-in-WriteWord-clause-outcome : goal.returns-in-WriteWord-clause-outcome
returns-in-WriteWord-clause-outcome c = λ scope. c.named-in-WriteWord.ensures.outcome scope ∙ ap (option_map named) c.write_word.ensures ∙ ap (λ f. from_word f c.args.word) (sym c.in-WriteWord.is)

pub returns-in-ReadWord-clause-outcome : goal.returns-in-ReadWord-clause-outcome
returns-in-ReadWord-clause-outcome c = λ scope. c.named-in-ReadWord.ensures.outcome scope ∙ ap (option_map named) c.read_word.ensures ∙ ap (λ f. from_word f c.args.word) (sym c.in-ReadWord.is)
