use Rattle.rdl_sound_laws.proofs.Fed.{gate-fed}
use Rattle.rdl_sound_laws.proofs.sound_fields.gates_are_fed.Goals as goal

pub returns : goal.returns
returns c = λ all n high low eh el leads. gate-fed all n high low (c.settings_have_forms.ensures n) eh el leads
