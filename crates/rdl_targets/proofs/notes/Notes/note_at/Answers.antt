use Rattle.std.proofs.Common.{sym}
use Rattle.plain_lemmas.proofs.Results.{on_ok-map as on_ok}
use Rattle.rdl_targets.proofs.Listing.{no-body, one-body}
use Rattle.rdl_targets.proofs.notes.Notes.note_at.Goals as goal

pub returns-in-Some : goal.returns-in-Some
returns-in-Some c = on_ok c.note_body.result _ _ (λ noted. one-body c.args.number c.args.rows.now c.args.node c.in-Some.row c.args.self.now c.note_body.new.self (sym c.in-Some.ensures) noted) c.note_body.ensures

pub returns-in-None : goal.returns-in-None
returns-in-None c = no-body c.args.number c.args.rows.now c.args.node c.args.self.now (sym c.in-None.ensures)
