use Rattle.std.proofs.Common.{[], ◌∷◌, option_copied, subst}
use Rattle.command_line.specs.Words.{run_of, waits_of}
use Rattle.replies.specs.Verdict.{IsDescribedWith}
use Rattle.replies.specs.Described.{IsFoundFor}
use Rattle.replies.specs.Loaded.{IsLoaded}
use Rattle.replies.specs.Outcome.{FailedRead, IsRead, IsRefused, source_limit}
use Rattle.replies.specs.RunAnswer.{IsRunAnswer}
use Rattle.replies.specs.Answer.{texts_of}
use Rattle.replies.proofs.Rows.{Answers-judged, Judges-not_run, Judges-ran}
use Rattle.replies.proofs.running.run_files.Goals as goal

pub returns-in-Stopped-3-clause-answers : goal.returns-in-Stopped-3-clause-answers
returns-in-Stopped-3-clause-answers g c =
    let answer = c.in-Stopped-3.answer in
    let contents = g.S.Shelf.contents c.args.shelf.now in
    let later = g.S.Shelf.contents c.load_file.new.shelf in
    let top = option_copied c.args.top in
    let file = c.args.file.now in
    let table = c.args.table.now in
    let source = subst (λ l. IsLoaded contents (FailedRead g.S.Shelf.faults c.args.shelf.now c.load_file.new.shelf) file source_limit l) c.in-Bytes.is c.in_ok-source.ensures.loaded in
    let stimulus = subst (λ l. IsLoaded later (FailedRead g.S.Shelf.faults c.load_file.new.shelf c.load_file-2.new.shelf) table source_limit l) c.in-Bytes-2.is c.in_ok-stimulus.ensures.loaded in
    let before = subst (λ k. IsRead k table source_limit c.in-Bytes-2.stimulus.items) c.in_ok-source.ensures.unchanged stimulus in
    let found = subst (λ d. IsFoundFor (waits_of c.args.waits) top file c.deref.result.now d) c.in-Stopped-3.is c.in_ok-block.ensures in
    let refused = subst (λ s. IsRefused top file s (texts_of answer)) c.deref.ensures.value found.1 in
    Answers-judged contents (FailedRead g.S.Shelf.faults c.args.shelf.now c.load_file-2.new.shelf) (run_of c.args.waits top file table) (c.in-Bytes.source.items ∷ c.in-Bytes-2.stimulus.items ∷ []) answer.status (texts_of answer) (source, (before, tt))
    (Judges-not_run c.args.waits top file table c.in-Bytes.source.items c.in-Bytes-2.stimulus.items answer.status (texts_of answer) found.0 refused)

pub returns-clause-answers : goal.returns-clause-answers
returns-clause-answers g c =
    let answer = c.in_ok-answer.answer in
    let block = c.in-Clean.block in
    let contents = g.S.Shelf.contents c.args.shelf.now in
    let later = g.S.Shelf.contents c.load_file.new.shelf in
    let top = option_copied c.args.top in
    let file = c.args.file.now in
    let table = c.args.table.now in
    let n = waits_of c.args.waits in
    let source = subst (λ l. IsLoaded contents (FailedRead g.S.Shelf.faults c.args.shelf.now c.load_file.new.shelf) file source_limit l) c.in-Bytes.is c.in_ok-source.ensures.loaded in
    let stimulus = subst (λ l. IsLoaded later (FailedRead g.S.Shelf.faults c.load_file.new.shelf c.load_file-2.new.shelf) table source_limit l) c.in-Bytes-2.is c.in_ok-stimulus.ensures.loaded in
    let before = subst (λ k. IsRead k table source_limit c.in-Bytes-2.stimulus.items) c.in_ok-source.ensures.unchanged stimulus in
    let found = subst (λ d. IsFoundFor n top file c.deref.result.now d) c.in-Clean.is c.in_ok-block.ensures in
    let described = subst (λ s. IsDescribedWith top s found.0 n block) c.deref.ensures.value found.1 in
    let ran = subst (λ s. IsRunAnswer block table s answer.status (texts_of answer)) c.deref-2.ensures.value c.in_ok-answer.ensures in
    Answers-judged contents (FailedRead g.S.Shelf.faults c.args.shelf.now c.load_file-2.new.shelf) (run_of c.args.waits top file table) (c.in-Bytes.source.items ∷ c.in-Bytes-2.stimulus.items ∷ []) answer.status (texts_of answer) (source, (before, tt))
    (Judges-ran c.args.waits top file table c.in-Bytes.source.items c.in-Bytes-2.stimulus.items found.0 block answer.status (texts_of answer) described ran)
