use Rattle.std.proofs.Common.{◌∙◌, ap}
use Rattle.rdl_notes.specs.Entries.{entries_said}
use Rattle.rdl_notes.proofs.Enumerating.{made_more}
use Rattle.rdl_notes.proofs.entries.notes_of_each.Goals as goal

pub loop-encoding-preserved : goal.loop-encoding-preserved
loop-encoding-preserved c = λ s known.
    made_more (λ v. v.items) (λ e. entries_said s e.place) c.args.encodings.now c.loop-encoding.encoding-index c.encoding-item.result c.loop-encoding-test.true c.encoding-item.is
    c.loop-encoding.list.items c.push.new.self.items c.in_ok-notes.notes c.in_ok-push.ensures.items (c.in_ok-notes.ensures s known ∙ ap (entries_said s) c.place_of.ensures) (c.loop-encoding.invariant s known)
