use Rattle.std.proofs.Common.{◌≡◌, [], length, replicate, slice_get, Some, unwrap_or, ap, sym, subst, ◌∙◌}
use Rattle.drive_lang.specs.Playing.{IsSpelled, Playing}
use Rattle.drive_lang.proofs.Spelled.{spells}
use Rattle.drive_lang.proofs.script.Script.name.Goals as goal

pub returns : goal.returns
returns c = λ name spelled.
    let lines = c.self.inside.lines.items in
    let here = subst (λ (p : Playing). IsSpelled p.all c.args.line name) (sym c.self.view_is) spelled in
    let s = spells lines (replicate (length c.self.inside.held.items) 0) c.args.line name here in
    let at = subst (λ ls. slice_get ls s.place ≡ Some s.line) (sym c.deref.ensures.value) s.there in
    c.name_at.ensures s.place s.line at s.numbered ∙ ap (λ n. unwrap_or n []) s.named
