use Rattle.rdl_field_rules.proofs.Noted.{view_noted}
use Rattle.rdl_field_rules.proofs.views.judge_view.Goals as goal

pub returns : goal.returns
returns c = λ r b at p q a fact. view_noted r b c.args.place c.args.bits c.args.access p q a (c.spans_words.ensures b.node at) (c.is_never_written.ensures b.node at) (c.is_never_read.ensures b.node at) fact.entry_
    c.in_ok-note.ensures c.in_ok-note-2.ensures c.in_ok-note-3.ensures c.in_ok-note-4.ensures
