use Rattle.std.proofs.Common.{◌≤◌, ◌+◌, ◌++◌, option_copied, refl, ap, sym, subst, ◌∙◌, arith}
use Rattle.drive_lang.specs.Left.{HasNext, vectors_in}
use Rattle.drive_lang.proofs.Passing.{none_left, one_taken}
use Rattle.drive_lang.proofs.advancing.advance.Goals as goal

pub returns-in_default-clause-taken : goal.returns-in_default-clause-taken
returns-in_default-clause-taken c =
    let none = none_left c.args.lines.now c.pass-now.result c.pass-now.new.held (sym c.line_at.ensures.line ∙ ap option_copied c.in_default.is) in
    rw (sym c.pass-now.ensures.left ∙ none, none) (refl, refl, refl)

pub overflow_add-at : goal.overflow_add-at
overflow_add-at c =
    let at = subst (λ o. HasNext o c.pass-now.result.over) (sym c.line_at.ensures.line ∙ ap option_copied c.in-Some.is) c.pass-now.ensures.at in
    omega (arith, at.1)

pub returns-clause-taken : goal.returns-clause-taken
returns-clause-taken c =
    let line = c.in-Some.line.now in
    let now = c.pass-now.result in
    let held = c.pass-now.new.held in
    let there = sym c.line_at.ensures.line ∙ ap option_copied c.in-Some.is in
    let at = subst (λ o. HasNext o now.over) there c.pass-now.ensures.at in
    let taken = one_taken c.args.lines.now now line held there at.0 in
    rw (sym c.pass-now.ensures.left ∙ taken) (refl, c.turn_at.ensures, c.fill.ensures ∙ ap (λ bus. bus ++ held) c.bus_at-bus.ensures)

pub returns-clause-within : goal.returns-clause-within
returns-clause-within c =
    let there = sym c.line_at.ensures.line ∙ ap option_copied c.in-Some.is in
    let at = subst (λ o. HasNext o c.pass-now.result.over) there c.pass-now.ensures.at in
    subst (λ o. c.pass-now.result.over + 1 ≤ vectors_in o) (sym there) (omega (arith, at.0))
