use Rattle.rdl_sound_laws.proofs.Primaries.{have-primaries}
use Rattle.rdl_sound_laws.proofs.sound_slots.aliases_have_primaries.Goals as goal

pub returns : goal.returns
returns c = λ e rows clean are. have-primaries e rows clean c.primaries_stand.ensures are
