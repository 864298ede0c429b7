use Rattle.std.proofs.Common.{◌≡◌, ◌∙◌, ℕ, List, [], ◌∷◌, option_copied, refl, ap, subst}
use Rattle.html_manual.specs.Page.{page}
use Rattle.rdl_notes.specs.Notes.{notes_of}
use Rattle.rdl_verdict.specs.Answers.{Refuses}
use Rattle.rdl_verdict.specs.declared.error.JudgeError.{JudgeError}
use Rattle.replies.specs.Answer.{texts_of}
use Rattle.replies.specs.Verdict.{IsDescribedWith}
use Rattle.replies.proofs.Rows.{Judges-undocumented, first_told}
use Rattle.replies.proofs.documenting.document_source.Goals as goal

pub prepare-requires : goal.prepare-requires
prepare-requires c = c.in-Ok.ensures.described.sound

pub returns-in_ok-manual-in-Ok-clause-judged : goal.returns-in_ok-manual-in-Ok-clause-judged
returns-in_ok-manual-in-Ok-clause-judged c = λ dump has.
    let m = c.in-Ok.contents in
    let is = c.in-Ok.ensures in
    let top = option_copied c.args.top in
    let source = c.args.source.now in
    let found = is.described in
    let described : IsDescribedWith top source is.tree 0 m.block = record { reads = found.reads; clean = found.clean; block = found.block; sound = found.sound; apart = found.apart } in
    let text = c.in_ok-manual-in-Ok.ensures ∙ ap (λ n. page m.block n m.encodings) is.notes ∙ ap (page m.block (notes_of top is.tree)) is.encodings in
    record { tree = is.tree; block = m.block; described = described; text = text; quiet = refl }

pub returns-in_ok-answer-in-Err-Faults-clause-judged : goal.returns-in_ok-answer-in-Err-Faults-clause-judged
returns-in_ok-answer-in-Err-Faults-clause-judged c = λ dump has.
    let answer = c.in_ok-answer-in-Err-Faults.answer in
    let told = c.in_ok-answer-in-Err-Faults.ensures in
    let top = option_copied c.args.top in
    let file = c.args.file.now in
    let source = c.args.source.now in
    let refused = subst (λ (e : JudgeError). Refuses top source e) c.in-Err-Faults.field-0-is c.in-Err-Faults.ensures in
    Judges-undocumented top file source answer.status (texts_of answer) told.status
    (first_told top file source c.in-Err-Faults.faults.items (texts_of answer) refused (told.err, told.out))
