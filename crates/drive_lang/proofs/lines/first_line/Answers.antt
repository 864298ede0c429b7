use Rattle.std.proofs.Common.{◌+◌, [], ◌∷◌, drop, ap, sym, ◌∙◌}
use Rattle.drive_lang.specs.Lines.{lines_of, uncommented}
use Rattle.drive_lang.proofs.Splitting.{last_line, line_before}
use Rattle.plain_lemmas.proofs.Lists.{take-rest as past}
use Rattle.drive_lang.proofs.lines.first_line.Goals as goal

pub returns-in-Some-clause-line : goal.returns-in-Some-clause-line
returns-in-Some-clause-line c =
    let text = c.args.text.now in
    let end = c.in-Some.end in
    line_before text end (sym c.place_of.ensures ∙ c.in-Some.is)
    ∙ ap (λ line. line ∷ lines_of (drop (end + 1) text)) (sym (c.without_comment.ensures ∙ ap uncommented c.without_return.ensures))
    ∙ ap (λ rest. c.without_comment.result.now ∷ lines_of rest) (sym (past text (end + 1)))

pub returns-in-None-clause-line : goal.returns-in-None-clause-line
returns-in-None-clause-line c =
    last_line c.args.text.now (sym c.place_of.ensures ∙ c.in-None.is)
    ∙ ap (λ line. line ∷ []) (sym (c.without_comment-in-None.ensures ∙ ap uncommented c.without_return-in-None.ensures))
