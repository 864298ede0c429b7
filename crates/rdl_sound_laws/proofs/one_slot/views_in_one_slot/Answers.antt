use Rattle.std.proofs.Common.{Some}
use Rattle.rdl_values.specs.Elaborated.{top_name}
use Rattle.rdl_addr.specs.Rules.{is_read_only, is_write_only, registers}
use Rattle.rdl_sound_laws.proofs.OneSlot.{all-views}
use Rattle.rdl_sound_laws.proofs.one_slot.views_in_one_slot.Goals as goal

pub returns-clause-reads : goal.returns-clause-reads
returns-clause-reads c = λ e waits b settled placed clean block one mates.
    all-views (registers (Some (top_name e)) e.source.now) is_write_only is_read_only b.reads block.reads b (c.words_are_sound.ensures.reads e waits b settled placed clean block one mates)

pub returns-clause-writes : goal.returns-clause-writes
returns-clause-writes c = λ e waits b settled placed clean block one mates.
    all-views (registers (Some (top_name e)) e.source.now) is_read_only is_write_only b.writes block.writes b (c.words_are_sound.ensures.writes e waits b settled placed clean block one mates)
