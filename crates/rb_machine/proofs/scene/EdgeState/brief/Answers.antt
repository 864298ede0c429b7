use Rattle.std.proofs.Common.{◌≡◌, ◌∙◌, Some, ap, length, refl, slice_get, sym}
use Rattle.std.proofs.lemmas.Option.{slice_get-map, slice_get_past, slice_get_read}
use Rattle.rb_machine.specs.Quiet.{brief_of}
use Rattle.rb_machine.proofs.scene.EdgeState.brief.Goals as goal

pub returns-in-None : goal.returns-in-None
returns-in-None c =
    let s = c.args.self.now in
    sym (slice_get_past s.briefs.now c.args.number c.in-None.ensures.lookup.3) ∙ (ap (λ q. slice_get q c.args.number) c.requires.briefs ∙ slice_get-map brief_of s.block.now.fields c.args.number)

pub returns-in-Some : goal.returns-in-Some
returns-in-Some c =
    let s = c.args.self.now in
    let l = c.in-Some.ensures.lookup in
    let there : slice_get s.briefs.now c.args.number ≡ Some c.in-Some.brief.now = slice_get_read s.briefs.now (length s.briefs.now) c.args.number c.in-Some.brief.now refl l.3.0 l.1 in
    sym there ∙ (ap (λ q. slice_get q c.args.number) c.requires.briefs ∙ slice_get-map brief_of s.block.now.fields c.args.number)
