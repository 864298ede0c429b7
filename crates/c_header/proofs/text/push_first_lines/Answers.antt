use Rattle.std.proofs.Common.{◌∙◌, ◌++◌, ap}
use Rattle.c_header.specs.Header.{guard_lines, language_lines, title}
use Rattle.c_header.proofs.Joined.{two_first}
use Rattle.c_header.proofs.text.push_first_lines.Goals as goal

pub returns : goal.returns
returns c =
    let old = c.args.text.now.items in
    let a = title c.args.top.now in
    let b = guard_lines c.args.begin.now in
    c.in_ok-extend_from_slice.ensures.items ∙ ap (λ xs. xs ++ language_lines) (c.in_ok-push_guard_lines.ensures ∙ ap (λ xs. xs ++ b) c.in_ok-push_title.ensures) ∙ two_first old a b language_lines
