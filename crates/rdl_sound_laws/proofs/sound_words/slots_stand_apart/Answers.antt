use Rattle.rdl_addr.specs.Rules.{is_read_only, is_write_only}
use Rattle.rdl_sound_laws.proofs.Together.{all-apart}
use Rattle.rdl_sound_laws.proofs.sound_words.slots_stand_apart.Goals as goal

pub returns-clause-reads : goal.returns-clause-reads
returns-clause-reads c = λ e waits b settled placed block. all-apart e settled placed waits b block is_write_only is_read_only b.reads block.reads

pub returns-clause-writes : goal.returns-clause-writes
returns-clause-writes c = λ e waits b settled placed block. all-apart e settled placed waits b block is_read_only is_write_only b.writes block.writes
