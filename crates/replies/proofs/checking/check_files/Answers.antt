use Rattle.std.proofs.Common.{◌≤◌, ℕ, All, List, Vec, Global, length, option_copied, ap, sym, ◌∙◌, subst}
use Rattle.command_line.specs.Words.{Command, check, texts}
use Rattle.replies.specs.declared.checking.AllLoaded.{AllLoaded}
use Rattle.replies.specs.Outcome.{FailedRead, IsChecked, source_limit}
use Rattle.replies.specs.Answer.{texts_of}
use Rattle.replies.specs.Checked.{AreLoaded, bytes_of}
use Rattle.replies.proofs.Rows.{Answers-judged}
use Rattle.replies.proofs.Verdicts.{read-lengths, read-short}
use Rattle.replies.proofs.checking.check_files.Goals as goal

pub check_sources-requires-clause-each : goal.check_sources-requires-clause-each
check_sources-requires-clause-each g c =
    let contents = g.S.Shelf.contents c.args.shelf.now in
    let failed = FailedRead g.S.Shelf.faults c.args.shelf.now c.load_all.new.shelf in
    let read = subst (λ (l : AllLoaded). AreLoaded contents failed (texts c.args.files.now) l) c.in-Sources.is c.in_ok-sources.ensures.loaded in
    read-lengths contents c.args.files.now c.in-Sources.sources.items read ∙ ap (λ (vs : List (Vec ℕ Global)). length vs) (sym c.deref.ensures.value)

pub check_sources-requires-clause-short : goal.check_sources-requires-clause-short
check_sources-requires-clause-short g c =
    let contents = g.S.Shelf.contents c.args.shelf.now in
    let failed = FailedRead g.S.Shelf.faults c.args.shelf.now c.load_all.new.shelf in
    let read = subst (λ (l : AllLoaded). AreLoaded contents failed (texts c.args.files.now) l) c.in-Sources.is c.in_ok-sources.ensures.loaded in
    let short = read-short contents c.args.files.now c.in-Sources.sources.items read in
    subst (λ (vs : List (Vec ℕ Global)). All (λ (v : Vec ℕ Global). length v.items ≤ source_limit) vs) (sym c.deref.ensures.value) short

pub returns-in_ok-answer-in-Sources-clause-answers : goal.returns-in_ok-answer-in-Sources-clause-answers
returns-in_ok-answer-in-Sources-clause-answers g c =
    let answer = c.in_ok-answer-in-Sources.answer in
    let contents = g.S.Shelf.contents c.args.shelf.now in
    let failed = FailedRead g.S.Shelf.faults c.args.shelf.now c.load_all.new.shelf in
    let files = texts c.args.files.now in
    let top = option_copied c.args.top in
    let read = subst (λ (l : AllLoaded). AreLoaded contents failed files l) c.in-Sources.is c.in_ok-sources.ensures.loaded in
    let command : Command = check top files in
    let P : List (Vec ℕ Global) → Type 0 = λ vs. IsChecked top files (bytes_of vs) answer.status (texts_of answer) in
    Answers-judged contents failed command (bytes_of c.in-Sources.sources.items) answer.status (texts_of answer) read (subst P c.deref.ensures.value c.in_ok-answer-in-Sources.ensures)
