use Rattle.rdl_block_laws.proofs.SoundRegisters.{all-sound}
use Rattle.rdl_block_laws.proofs.sound_registers.registers_are_sound.Goals as goal

pub returns : goal.returns
returns c = λ wanted s waits b is leads. all-sound wanted s c.settings_have_forms.ensures leads waits b is
