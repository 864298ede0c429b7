use Rattle.std.proofs.Common.{Some}
use Rattle.rdl_values.specs.Elaborated.{top_name}
use Rattle.rdl_addr.specs.Rules.{is_read_only, is_write_only, registers}
use Rattle.rdl_rules.specs.Words.{read_words, write_words}
use Rattle.rdl_sound_laws.proofs.Meeting.{all-clear, reads-tell, words-apart, writes-tell}
use Rattle.rdl_sound_laws.proofs.Ordered.{rising}
use Rattle.rdl_sound_laws.proofs.Placed.{none-shared, stands}
use Rattle.rdl_sound_laws.proofs.word_order.words_rise.Goals as goal

pub returns-clause-reads : goal.returns-clause-reads
returns-clause-reads c = λ e settled placed ws same up.
    let ps = registers (Some (top_name e)) e.source.now in
    rising (read_words ps) ws (words-apart is_write_only is_read_only reads-tell ps (all-clear ps (none-shared e settled placed)) (stands e settled placed)) same up

pub returns-clause-writes : goal.returns-clause-writes
returns-clause-writes c = λ e settled placed ws same up.
    let ps = registers (Some (top_name e)) e.source.now in
    rising (write_words ps) ws (words-apart is_read_only is_write_only writes-tell ps (all-clear ps (none-shared e settled placed)) (stands e settled placed)) same up
