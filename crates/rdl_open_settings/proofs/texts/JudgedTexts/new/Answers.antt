use Rattle.std.proofs.Common.{ap, nat_eq}
use Rattle.std.specs.Map.{lookup}
use Rattle.rdl_open_settings.proofs.Further.{no_texts}
use Rattle.rdl_open_settings.proofs.texts.JudgedTexts.new.Goals as goal

pub returns : goal.returns
returns c = λ t held. no_texts t held (record { known = c.new.result; live = c.new-2.result }) (λ k. ap (lookup (nat_eq k)) c.new.ensures.empty) (λ k. ap (lookup (nat_eq k)) c.new-2.ensures.empty)
