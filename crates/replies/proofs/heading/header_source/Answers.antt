use Rattle.std.proofs.Common.{◌≡◌, ◌∙◌, ℕ, List, [], ◌∷◌, option_copied, ap, subst}
use Rattle.c_header.specs.Header.{header}
use Rattle.rdl_verdict.specs.Answers.{Refuses}
use Rattle.rdl_verdict.specs.declared.error.JudgeError.{JudgeError}
use Rattle.replies.specs.Answer.{texts_of}
use Rattle.replies.specs.Verdict.{IsDescribedWith}
use Rattle.replies.proofs.Rows.{Judges-headed, Judges-unheaded, first_told}
use Rattle.replies.proofs.heading.header_source.Goals as goal

pub header-requires : goal.header-requires
header-requires c = c.in-Ok.ensures.described.sound

pub returns-in-Ok : goal.returns-in-Ok
returns-in-Ok c =
    let h = c.in-Ok.heading in
    let is = c.in-Ok.ensures in
    let top = option_copied c.args.top in
    let source = c.args.source.now in
    let found = is.described in
    let described : IsDescribedWith top source is.tree 0 h.block = record { reads = found.reads; clean = found.clean; block = found.block; sound = found.sound; apart = found.apart } in
    let text = c.done.ensures.out ∙ c.in_ok-text-in-Ok.ensures ∙ ap (header h.block) is.encodings in
    Judges-headed top c.args.file.now source c.done.result.status (texts_of c.done.result) c.done.ensures.status
    (record { tree = is.tree; block = h.block; described = described; text = text; quiet = c.done.ensures.err })

pub returns-in-Err-Faults : goal.returns-in-Err-Faults
returns-in-Err-Faults c =
    let answer = c.in_ok-answer-in-Err-Faults.answer in
    let told = c.in_ok-answer-in-Err-Faults.ensures in
    let top = option_copied c.args.top in
    let file = c.args.file.now in
    let source = c.args.source.now in
    let refused = subst (λ (e : JudgeError). Refuses top source e) c.in-Err-Faults.field-0-is c.in-Err-Faults.ensures in
    Judges-unheaded top file source answer.status (texts_of answer) told.status
    (first_told top file source c.in-Err-Faults.faults.items (texts_of answer) refused (told.err, told.out))
