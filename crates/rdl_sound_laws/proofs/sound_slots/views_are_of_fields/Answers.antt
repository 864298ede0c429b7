use Rattle.rdl_sound_laws.proofs.Views.{all-of}
use Rattle.rdl_sound_laws.proofs.sound_slots.views_are_of_fields.Goals as goal

pub returns : goal.returns
returns c = λ e waits b settled clean block one mates. all-of e settled clean waits b block one mates
