use Rattle.std.proofs.Common.{◌≡◌, ◌≢◌, ◌==◌, ◌∙◌, ℕ, true, false, List, [], ◌∷◌, length, option_copied, vec_len, inl, inr, sym, subst, arith}
use Rattle.std.proofs.lemmas.Bool.{eqb-true}
use Rattle.std.proofs.lemmas.List.{nil_from_length}
use Rattle.rdl_verdict.specs.Answers.{Refuses}
use Rattle.rdl_verdict.specs.Verdict.{IsAxiVerdict, accesses}
use Rattle.rdl_verdict.specs.declared.error.JudgeError.{JudgeError}
use Rattle.replies.specs.Answer.{texts_of}
use Rattle.replies.specs.Verdict.{IsDescribedWith}
use Rattle.replies.proofs.Rows.{told_first}
use Rattle.replies.proofs.fronting.describe_for_axi.Goals as goal

none_there : {X : Type 0} (xs : List X) (n : ℕ) → n ≡ length xs → (n == 0) ≡ true → xs ≡ []
none_there xs n is e = nil_from_length xs (sym is ∙ eqb-true n 0 e)

some_there : {X : Type 0} (xs : List X) (n : ℕ) → n ≡ length xs → (n == 0) ≡ false → xs ≢ []
some_there [] n is e = let wrong : (0 == 0) ≡ false = subst (λ k. (k == 0) ≡ false) is e in cc wrong
some_there (x ∷ xs) n is e = λ same. cc same

pub judge_accesses-requires : goal.judge_accesses-requires
judge_accesses-requires c = (option_copied c.args.top, (c.args.source.now, c.in-Ok.ensures))

pub returns-then-is_empty : goal.returns-then-is_empty
returns-then-is_empty c =
    let j = c.in-Ok.judged in
    let top = option_copied c.args.top in
    let source = c.args.source.now in
    let tree = j.elab.source.now in
    let found = c.in-Ok.ensures.described in
    let narrow = c.in_ok-narrow-in-Ok.narrow in
    let ok = narrow.ok.0 in
    let size : vec_len narrow ≡ length narrow.items = omega (arith, ok) in
    let none : narrow.items ≡ [] = none_there narrow.items (vec_len narrow) size (sym c.is_empty.ensures ∙ c.if-is_empty.true) in
    let described : IsDescribedWith top source tree 0 j.block = record { reads = found.reads; clean = found.clean; block = found.block; sound = found.sound; apart = found.apart } in
    (tree, described, subst (λ list. accesses top tree list) none (c.in_ok-narrow-in-Ok.ensures top source c.in-Ok.ensures))

pub returns-in-Ok : goal.returns-in-Ok
returns-in-Ok c =
    let j = c.in-Ok.judged in
    let top = option_copied c.args.top in
    let file = c.args.file.now in
    let source = c.args.source.now in
    let tree = j.elab.source.now in
    let found = c.in-Ok.ensures.described in
    let narrow = c.in_ok-narrow-in-Ok.narrow in
    let ok = narrow.ok.0 in
    let size : vec_len narrow ≡ length narrow.items = omega (arith, ok) in
    let some : narrow.items ≢ [] = some_there narrow.items (vec_len narrow) size (sym c.is_empty.ensures ∙ c.if-is_empty.false) in
    let verdict : IsAxiVerdict top source narrow.items = inr (tree, found.reads, found.clean, c.in_ok-narrow-in-Ok.ensures top source c.in-Ok.ensures) in
    let answer = c.in_ok-answer-in-Ok.answer in
    let told = c.in_ok-answer-in-Ok.ensures in
    (told.status, told_first (IsAxiVerdict top source) file source narrow.items (texts_of answer) verdict some (told.err, told.out))

pub returns-in-Err-Faults : goal.returns-in-Err-Faults
returns-in-Err-Faults c =
    let answer = c.in_ok-answer-in-Err-Faults.answer in
    let told = c.in_ok-answer-in-Err-Faults.ensures in
    let top = option_copied c.args.top in
    let file = c.args.file.now in
    let source = c.args.source.now in
    let refused = subst (λ (e : JudgeError). Refuses top source e) c.in-Err-Faults.field-0-is c.in-Err-Faults.ensures in
    (told.status, told_first (IsAxiVerdict top source) file source c.in-Err-Faults.faults.items (texts_of answer) (inl (refused.verdict, refused.some)) refused.some (told.err, told.out))
