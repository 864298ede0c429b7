use Rattle.rdl_sound_laws.proofs.Aliases.{all-alias-fields}
use Rattle.rdl_sound_laws.proofs.sound_slots.aliases_have_fields.Goals as goal

pub returns : goal.returns
returns c = λ e waits b settled clean block one a r f i alias only own h. all-alias-fields e settled clean waits b block one a r f i alias only own h
