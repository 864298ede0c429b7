use Rattle.std.proofs.Common.{codes, ◌++◌, refl}
use Rattle.verdict_text.specs.Lines.{file_line}
use Rattle.replies.specs.Answer.{texts_of}
use Rattle.replies.proofs.Dumps.{lacking, placed}
use Rattle.replies.proofs.Rows.{Judges-bad_vcd}
use Rattle.replies.proofs.reading.bad_vcd.Goals as goal

pub returns-in_ok-answer-in-NoValue : goal.returns-in_ok-answer-in-NoValue
returns-in_ok-answer-in-NoValue c =
    let answer = c.in_ok-answer-in-NoValue.answer in
    let told = c.in_ok-answer-in-NoValue.ensures in
    Judges-bad_vcd c.args.file.now c.args.text.now c.args.error (file_line c.args.file.now (codes ": pin " ++ c.name_of.result.now ++ codes " without a value")) answer.status (texts_of answer) told.status c.requires.fails
    (lacking c.args.file.now c.args.text.now c.args.error c.in-NoValue.pin c.name_of.result.now c.in-NoValue.is c.requires.fails c.name_of.ensures) (told.err, told.out)

pub returns-in_ok-answer-in_default : goal.returns-in_ok-answer-in_default
returns-in_ok-answer-in_default c =
    let answer = c.in_ok-answer-in_default.answer in
    let told = c.in_ok-answer-in_default.ensures in
    Judges-bad_vcd c.args.file.now c.args.text.now c.args.error answer.err.items answer.status (texts_of answer) told.status c.requires.fails
    (placed c.args.file.now c.args.text.now c.args.error answer.err.items (λ pin e. c.in_default.not-NoValue pin e) told.err) (refl, told.out)
