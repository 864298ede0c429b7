use Rattle.std.proofs.Common.{◌≡◌, ◌≤◌, ◌+◌, true, length, Some, option_copied, slice_get, ap, sym, subst, ◌∙◌, arith}
use Rattle.drive_lang.specs.Steps.{vectors_of}
use Rattle.drive_lang.specs.Left.{HasNext, are_held, is_held, left_of, vectors_in}
use Rattle.drive_lang.proofs.Passing.{passed}
use Rattle.plain_lemmas.proofs.Lists.{all-get as all_there}
use Rattle.drive_lang.proofs.position.pass.Goals as goal

pub loop-line-preserved : goal.loop-line-preserved
loop-line-preserved c =
    let lines = c.args.lines.now in
    let now = c.loop-line.now in
    let line = c.in-Some.line.now in
    let there : slice_get lines now.line ≡ Some line = sym c.line_at.ensures.line ∙ ap option_copied c.in-Some.is in
    let within : now.over ≤ vectors_of line.order = subst (λ o. now.over ≤ vectors_in o) there c.loop-line.invariant.within in
    let all : vectors_of line.order ≡ now.over = omega (arith, within, c.vectors_of.ensures, c.if-now-vectors_of.false) in
    record {
      left = ap (left_of lines (record { line = now.line + 1; over = 0 })) c.hold.ensures ∙ passed lines now line c.loop-line.held there all ∙ c.loop-line.invariant.left;
      within = omega arith;
    }

pub hold-requires : goal.hold-requires
hold-requires c =
    let there = sym c.line_at.ensures.line ∙ ap option_copied c.in-Some.is in
    all_there (λ l. is_held l.order (length c.loop-line.held)) c.args.lines.now c.loop-line.now.line c.in-Some.line.now
    (subst (λ n. are_held c.args.lines.now n ≡ true) (sym c.loop-line.auto.held) c.requires.held) there

pub returns-clause-at : goal.returns-clause-at
returns-clause-at c = subst (λ o. HasNext o c.loop-line.now.over) (sym (sym c.line_at.ensures.line ∙ ap option_copied c.in_default.is)) tt
