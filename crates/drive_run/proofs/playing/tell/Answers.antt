use Rattle.std.proofs.Common.{◌≡◌, false, ◌==◌, OnOk, ◌++◌, codes, slice_index, ap, sym, subst, ◌∙◌, arith}
use Rattle.std.proofs.lemmas.Bool.Decides.{nat_tests}
use Rattle.report_text.specs.Printed.{cell}
use Rattle.drive_run.specs.Transcript.{of_line, told}
use Rattle.drive_run.proofs.Turns.{checked, different, shown}
use Rattle.drive_run.proofs.playing.tell.Goals as goal

pub returns-in-Show-clause-told : goal.returns-in-Show-clause-told
returns-in-Show-clause-told c = λ step among turn.
    let line = c.in-Show.line in
    let k = c.in-Show.output in
    let outs = c.args.outs.now in
    let s = shown c.args.script.now.all step among line k (sym c.in-Show.is ∙ turn) in
    let is : of_line line c.name.result.now (codes " " ++ cell c.number_at.result) ≡ told step.ask outs =
    ap (λ n. of_line line n (codes " " ++ cell c.number_at.result)) (c.name.ensures s.0 s.1)
    ∙ ap (λ n. of_line line s.0 (codes " " ++ cell n)) c.number_at.ensures ∙ ap (λ a. told a outs) s.2 in
    subst (λ t. OnOk c.push_shown.result (c.push_shown.new.text.items ≡ c.args.text.now.items ++ t)) is c.push_shown.ensures

pub returns-else-number-wanted-clause-told : goal.returns-else-number-wanted-clause-told
returns-else-number-wanted-clause-told c = λ step among turn.
    let line = c.in-Check.line in
    let k = c.in-Check.output in
    let wanted = c.in-Check.wanted in
    let outs = c.args.outs.now in
    let s = checked c.args.script.now.all step among line k wanted (sym c.in-Check.is ∙ turn) in
    let other : (slice_index outs k == wanted) ≡ false = let n = c.number_at-number.ensures in let d = c.if-number-wanted.false in grind (arith, nat_tests) in
    let is : of_line line c.name-in-Check.result.now (codes " expected " ++ cell wanted ++ codes " got " ++ cell c.number_at-number.result) ≡ told step.ask outs =
    ap (λ n. of_line line n (codes " expected " ++ cell wanted ++ codes " got " ++ cell c.number_at-number.result)) (c.name-in-Check.ensures s.0 s.1)
    ∙ ap (λ n. of_line line s.0 (codes " expected " ++ cell wanted ++ codes " got " ++ cell n)) c.number_at-number.ensures
    ∙ different line s.0 k wanted outs other ∙ ap (λ a. told a outs) s.2 in
    subst (λ t. OnOk c.push_difference.result (c.push_difference.new.text.items ≡ c.args.text.now.items ++ t)) is c.push_difference.ensures
