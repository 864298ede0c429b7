use Rattle.std.proofs.Common.{Some}
use Rattle.rdl_values.specs.Elaborated.{top_name}
use Rattle.rdl_addr.specs.Rules.{is_read_only, is_write_only, registers}
use Rattle.rdl_sound_laws.proofs.Meeting.{all-clear}
use Rattle.rdl_sound_laws.proofs.Placed.{none-shared, stands}
use Rattle.rdl_sound_laws.proofs.Same.{reads-exclude, same-places}
use Rattle.rdl_sound_laws.proofs.word_order.same_addresses.Goals as goal

pub returns : goal.returns
returns c = λ e settled placed reads writes r w.
    let ps = registers (Some (top_name e)) e.source.now in
    same-places is_write_only is_read_only reads-exclude ps (all-clear ps (none-shared e settled placed)) (stands e settled placed) reads writes r w
