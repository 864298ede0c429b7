use Rattle.plain_lemmas.proofs.Results.{on_ok-map as on_ok}
use Rattle.rdl_targets.proofs.Listing.{one-noted}
use Rattle.rdl_targets.proofs.notes.Notes.note.Goals as goal

pub returns : goal.returns
returns c = on_ok c.note_in-2.result _ _ (λ noted. one-noted c.args.number c.args.node.now c.args.self.now _ c.in_ok-note_in.ensures noted) c.note_in-2.ensures
