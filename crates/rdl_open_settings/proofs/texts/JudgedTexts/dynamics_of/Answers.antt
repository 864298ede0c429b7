use Rattle.std.proofs.Common.{◌∙◌, ap, sym}
use Rattle.std.specs.Option.{option_copied}
use Rattle.rdl_open_settings.proofs.texts.JudgedTexts.dynamics_of.Goals as goal

pub returns-in_ok-clone-in-Some : goal.returns-in_ok-clone-in-Some
returns-in_ok-clone-in-Some c = (c.in-Some.known.now, sym c.get.ensures.value ∙ ap option_copied c.in-Some.is, c.is_of.ensures c.if-is_of.true, ap (λ v. v.items) (sym c.in_ok-clone-in-Some.ensures.cases))
