use Rattle.std.proofs.Common.{Some}
use Rattle.rdl_values.specs.Elaborated.{top_name}
use Rattle.rdl_nodes.proofs.Members.{in-from}
use Rattle.rdl_addr.specs.Rules.{is_read_only, is_write_only, registers}
use Rattle.rdl_sound_laws.proofs.Meeting.{all-clear}
use Rattle.rdl_sound_laws.proofs.Placed.{none-shared, stands}
use Rattle.rdl_sound_laws.proofs.Same.{reads-exclude, some-ordered, writes-exclude}
use Rattle.rdl_sound_laws.proofs.word_order.some_words.Goals as goal

pub returns-clause-reads : goal.returns-clause-reads
returns-clause-reads c = λ e settled placed p i ws by.
    let ps = registers (Some (top_name e)) e.source.now in
    some-ordered is_write_only is_read_only reads-exclude ps (all-clear ps (none-shared e settled placed)) (stands e settled placed) p (in-from ps p i) ws by

pub returns-clause-writes : goal.returns-clause-writes
returns-clause-writes c = λ e settled placed p i ws by.
    let ps = registers (Some (top_name e)) e.source.now in
    some-ordered is_read_only is_write_only writes-exclude ps (all-clear ps (none-shared e settled placed)) (stands e settled placed) p (in-from ps p i) ws by
