use Rattle.rdl_sound_laws.proofs.Alone.{sound-field}
use Rattle.rdl_sound_laws.proofs.sound_fields.fields_are_sound.Goals as goal

pub returns : goal.returns
returns c = λ s all r f h. sound-field s all r f (c.settings_have_forms.ensures f) h
