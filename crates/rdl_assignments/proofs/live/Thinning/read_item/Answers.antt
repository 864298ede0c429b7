use Rattle.std.proofs.Common.{◌∙◌, ap}
use Rattle.std.specs.Option.{option_copied}
use Rattle.plain_lemmas.proofs.Results.{on_ok-map as on_ok}
use Rattle.rdl_assignments.proofs.Finding.{thinning_none}
use Rattle.rdl_assignments.proofs.live.Thinning.read_item.Goals as goal

pub returns-in-Some : goal.returns-in-Some
returns-in-Some c = on_ok c.read.result _ _ (λ more v shown of before i e at h. more v shown of before i (e ∙ ap option_copied c.in-Some.is) at h) c.read.ensures

pub returns-in-None : goal.returns-in-None
returns-in-None c = λ v shown of before i e at h. thinning_none of c.args.text.now.same_enums v c.args.self.now before i (e ∙ ap option_copied c.in-None.is) h
