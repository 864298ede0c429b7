use Rattle.rdl_addr.specs.Rules.{is_read_only, is_write_only}
use Rattle.rdl_sound_laws.proofs.Slots.{all-sound}
use Rattle.rdl_sound_laws.proofs.sound_slots.slots_are_sound.Goals as goal

pub returns-clause-reads : goal.returns-clause-reads
returns-clause-reads c = λ e waits b settled placed clean block one has. all-sound e settled placed clean waits b block one has is_write_only is_read_only b.reads block.reads

pub returns-clause-writes : goal.returns-clause-writes
returns-clause-writes c = λ e waits b settled placed clean block one has. all-sound e settled placed clean waits b block one has is_read_only is_write_only b.writes block.writes
