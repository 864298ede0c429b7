use Rattle.std.proofs.Common.{sym, subst}
use Rattle.rdl_layers.specs.Says.{Says}
use Rattle.rdl_layers.specs.Settings.{setting}
use Rattle.rdl_merge.proofs.Numbers.{none_said, number_said}
use Rattle.rdl_merge.proofs.settings.number_in.Goals as goal

pub returns-in-Number : goal.returns-in-Number
returns-in-Number c = λ all n h. number_said all c.in-Number.number (setting n c.args.prop) (subst (λ s. Says all s (setting n c.args.prop)) (sym c.in-Number.ensures) (c.entries_say.ensures.settings all n c.args.entries.now h c.args.prop))

pub returns-in_default : goal.returns-in_default
returns-in_default c = λ all n h. none_said all c.setting_of.result (setting n c.args.prop) c.in_default.not-Number (subst (λ s. Says all s (setting n c.args.prop)) (sym c.setting_of.ensures) (c.entries_say.ensures.settings all n c.args.entries.now h c.args.prop))
