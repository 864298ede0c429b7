use Rattle.std.proofs.Common.{refl}
use Rattle.rdl_merge.proofs.Said.{says_all}
use Rattle.rdl_merge.proofs.laws.entries_say.Goals as goal

pub returns-clause-none : goal.returns-clause-none
returns-clause-none c = λ all. record { assigned = λ p. refl; first = λ p. tt }

pub returns-clause-settings : goal.returns-clause-settings
returns-clause-settings c = λ all n es h p. says_all c.first_related_decides.ensures all n es h p
