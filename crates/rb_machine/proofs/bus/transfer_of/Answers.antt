use Rattle.std.proofs.Common.{ap, ◌∙◌, sym, subst}
use Rattle.std.specs.List.Sorted.{IsStrictlyIncreasing}
use Rattle.rb_model.specs.Run.{is_access}
use Rattle.std.proofs.Common.{not, ◌&&◌}
use Rattle.rb_machine.specs.Transfers.{bus_seen}
use Rattle.rb_machine.proofs.Buses.{is_transfer, none_is}
use Rattle.rb_machine.proofs.bus.transfer_of.Goals as goal

pub word_at-word-requires : goal.word_at-word-requires
word_at-word-requires c = subst IsStrictlyIncreasing (sym (c.deref.ensures.value ∙ c.requires.planned.addresses)) c.requires.sound.by_address

pub returns : goal.returns
returns c m w =
    let p = bus_seen c.args.bus.now in
    is_transfer c.args.block.now c.requires.sound p m c.deref.result.now c.word_at-word.result c.args.waited _ (c.deref.ensures.value ∙ c.requires.planned.addresses) c.word_at-word.ensures w
    (ap (λ q. q.0) c.carries_or_closes-carries.ensures ∙ ap (λ z. is_access p && not z) c.has_waited.ensures)
    (ap (λ q. q.1) c.carries_or_closes-carries.ensures ∙ ap (λ z. is_access p && z) c.has_waited.ensures)
    c.access_of.ensures (none_is c.word_at-word.result c.is_none.result c.is_none.ensures)
