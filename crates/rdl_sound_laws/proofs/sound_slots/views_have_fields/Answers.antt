use Rattle.rdl_sound_laws.proofs.Fields.{own-field}
use Rattle.rdl_sound_laws.proofs.sound_slots.views_have_fields.Goals as goal

pub returns : goal.returns
returns c = own-field
