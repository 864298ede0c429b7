use Rattle.std.proofs.Common.{sym}
use Rattle.plain_lemmas.proofs.Results.{on_ok-map as on_ok}
use Rattle.rdl_failures.proofs.Sets.{again}
use Rattle.rdl_layers.specs.Phase4.{of_enums}
use Rattle.rdl_open_settings.proofs.live.varying_enums.Goals as goal

pub returns-then-not-vary : goal.returns-then-not-vary
returns-then-not-vary c = λ b open_ h. sym (again (of_enums b) c.args.failures.now (h c.if-not-vary.true))

pub returns : goal.returns
returns c = on_ok c.enums_of.result _ _ (λ g b open_ h. g b open_) c.enums_of.ensures
