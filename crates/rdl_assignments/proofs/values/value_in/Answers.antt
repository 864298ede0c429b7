use Rattle.std.proofs.Common.{◌∙◌, sym, ap}
use Rattle.rdl_values.specs.Seen.{val_of}
use Rattle.rdl_layers.specs.Forms.{from_value}
use Rattle.rdl_assignments.proofs.values.value_in.Goals as goal

pub returns-in-Str-clause-outcome : goal.returns-in-Str-clause-outcome
returns-in-Str-clause-outcome c = λ scope. c.text_set.ensures.outcome scope ∙ ap (λ f. from_value f (val_of c.args.value.now)) (sym c.in-Str.is)

pub returns-in-Flag-clause-outcome : goal.returns-in-Flag-clause-outcome
returns-in-Flag-clause-outcome c = λ scope. c.flag_set.ensures.outcome scope ∙ ap (λ f. from_value f (val_of c.args.value.now)) (sym c.in-Flag.is)

pub returns-in-FlagRefer-clause-outcome : goal.returns-in-FlagRefer-clause-outcome
returns-in-FlagRefer-clause-outcome c = λ scope. c.flag_set-in-FlagRefer.ensures.outcome scope ∙ ap (λ f. from_value f (val_of c.args.value.now)) (sym c.in-FlagRefer.is)

pub returns-in-TrueOnly-clause-outcome : goal.returns-in-TrueOnly-clause-outcome
returns-in-TrueOnly-clause-outcome c = λ scope. c.true_set.ensures.outcome scope ∙ ap (λ f. from_value f (val_of c.args.value.now)) (sym c.in-TrueOnly.is)

pub returns-in-Number-clause-outcome : goal.returns-in-Number-clause-outcome
returns-in-Number-clause-outcome c = λ scope. c.number_set.ensures.outcome scope ∙ ap (λ f. from_value f (val_of c.args.value.now)) (sym c.in-Number.is)

pub returns-in-NumberRefer-clause-outcome : goal.returns-in-NumberRefer-clause-outcome
returns-in-NumberRefer-clause-outcome c = λ scope. c.number_set-in-NumberRefer.ensures.outcome scope ∙ ap (λ f. from_value f (val_of c.args.value.now)) (sym c.in-NumberRefer.is)

pub returns-in-FlagNumber-clause-outcome : goal.returns-in-FlagNumber-clause-outcome
returns-in-FlagNumber-clause-outcome c = λ scope. c.flag_or_number.ensures.outcome scope ∙ ap (λ f. from_value f (val_of c.args.value.now)) (sym c.in-FlagNumber.is)

pub returns-in-FlagNumberRefer-clause-outcome : goal.returns-in-FlagNumberRefer-clause-outcome
returns-in-FlagNumberRefer-clause-outcome c = λ scope. c.flag_or_number-in-FlagNumberRefer.ensures.outcome scope ∙ ap (λ f. from_value f (val_of c.args.value.now)) (sym c.in-FlagNumberRefer.is)

pub returns-in-Intr-clause-outcome : goal.returns-in-Intr-clause-outcome
returns-in-Intr-clause-outcome c = λ scope. c.intr_set.ensures.outcome scope ∙ ap (λ f. from_value f (val_of c.args.value.now)) (sym c.in-Intr.is)
