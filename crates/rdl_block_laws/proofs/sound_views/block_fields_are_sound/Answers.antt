use Rattle.rdl_values.specs.Elaborated.{top_name}
use Rattle.std.proofs.Common.{Some}
use Rattle.rdl_block_laws.proofs.SoundFields.{all-sound}
use Rattle.rdl_block_laws.proofs.sound_views.block_fields_are_sound.Goals as goal

pub returns : goal.returns
returns c = λ e waits b clean settled bound none block mates.
    let refs = c.references_are_sound.ensures in
    all-sound e none waits b block mates (c.clean_is_faultless.ensures.fields_ e clean settled bound none) c.fields_are_sound.ensures (refs.refer e waits b none block) (refs.in_register (Some (top_name e)) e.source.now waits b block) (refs.reset_signal e waits b bound none block)
