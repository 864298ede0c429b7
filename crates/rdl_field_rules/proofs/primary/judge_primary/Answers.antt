use Rattle.rdl_field_rules.proofs.Noted.{primary_noted}
use Rattle.rdl_field_rules.proofs.primary.judge_primary.Goals as goal

pub returns : goal.returns
returns c = λ n at p fact. primary_noted n c.args.place p (c.is_unread.ensures n at) (c.lacks_writer.ensures n at) (c.is_no_counter.ensures n at) (c.is_mixed.ensures n at) (c.is_no_interrupt.ensures n at fact) (c.is_bad_pulse.ensures n at fact) (c.is_too_wide.ensures n at fact)
    c.in_ok-note.ensures c.in_ok-note-2.ensures c.in_ok-note-3.ensures c.in_ok-note-4.ensures c.in_ok-note-5.ensures c.in_ok-note-6.ensures c.in_ok-note-7.ensures
