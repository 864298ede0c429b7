use Rattle.std.proofs.Common.{[], ◌∷◌, option_copied, subst}
use Rattle.command_line.specs.Words.{drive_of}
use Rattle.replies.specs.Verdict.{IsDescribedWith}
use Rattle.replies.specs.Described.{IsFoundFor}
use Rattle.replies.specs.Loaded.{IsLoaded}
use Rattle.replies.specs.Outcome.{FailedRead, IsRead, IsRefused, source_limit}
use Rattle.replies.specs.DriveAnswer.{IsDriveAnswer}
use Rattle.replies.specs.Answer.{texts_of}
use Rattle.replies.proofs.Rows.{Answers-judged, Judges-driven, Judges-not_driven}
use Rattle.replies.proofs.driving.drive_files.Goals as goal

pub returns-in-Stopped-3-clause-answers : goal.returns-in-Stopped-3-clause-answers
returns-in-Stopped-3-clause-answers g c =
    let answer = c.in-Stopped-3.answer in
    let contents = g.S.Shelf.contents c.args.shelf.now in
    let later = g.S.Shelf.contents c.load_file.new.shelf in
    let top = option_copied c.args.top in
    let file = c.args.file.now in
    let script = c.args.script.now in
    let source = subst (λ l. IsLoaded contents (FailedRead g.S.Shelf.faults c.args.shelf.now c.load_file.new.shelf) file source_limit l) c.in-Bytes.is c.in_ok-source.ensures.loaded in
    let bytes = subst (λ l. IsLoaded later (FailedRead g.S.Shelf.faults c.load_file.new.shelf c.load_file-2.new.shelf) script source_limit l) c.in-Bytes-2.is c.in_ok-bytes.ensures.loaded in
    let before = subst (λ k. IsRead k script source_limit c.in-Bytes-2.bytes.items) c.in_ok-source.ensures.unchanged bytes in
    let found = subst (λ d. IsFoundFor 0 top file c.deref.result.now d) c.in-Stopped-3.is c.in_ok-block.ensures in
    let refused = subst (λ s. IsRefused top file s (texts_of answer)) c.deref.ensures.value found.1 in
    Answers-judged contents (FailedRead g.S.Shelf.faults c.args.shelf.now c.load_file-2.new.shelf) (drive_of top file script) (c.in-Bytes.source.items ∷ c.in-Bytes-2.bytes.items ∷ []) answer.status (texts_of answer) (source, (before, tt))
    (Judges-not_driven top file script c.in-Bytes.source.items c.in-Bytes-2.bytes.items answer.status (texts_of answer) found.0 refused)

pub returns-clause-answers : goal.returns-clause-answers
returns-clause-answers g c =
    let answer = c.in_ok-answer.answer in
    let block = c.in-Clean.block in
    let contents = g.S.Shelf.contents c.args.shelf.now in
    let later = g.S.Shelf.contents c.load_file.new.shelf in
    let top = option_copied c.args.top in
    let file = c.args.file.now in
    let script = c.args.script.now in
    let source = subst (λ l. IsLoaded contents (FailedRead g.S.Shelf.faults c.args.shelf.now c.load_file.new.shelf) file source_limit l) c.in-Bytes.is c.in_ok-source.ensures.loaded in
    let bytes = subst (λ l. IsLoaded later (FailedRead g.S.Shelf.faults c.load_file.new.shelf c.load_file-2.new.shelf) script source_limit l) c.in-Bytes-2.is c.in_ok-bytes.ensures.loaded in
    let before = subst (λ k. IsRead k script source_limit c.in-Bytes-2.bytes.items) c.in_ok-source.ensures.unchanged bytes in
    let found = subst (λ d. IsFoundFor 0 top file c.deref.result.now d) c.in-Clean.is c.in_ok-block.ensures in
    let described = subst (λ s. IsDescribedWith top s found.0 0 block) c.deref.ensures.value found.1 in
    let driven = subst (λ s. IsDriveAnswer block script s answer.status (texts_of answer)) c.deref-2.ensures.value c.in_ok-answer.ensures in
    Answers-judged contents (FailedRead g.S.Shelf.faults c.args.shelf.now c.load_file-2.new.shelf) (drive_of top file script) (c.in-Bytes.source.items ∷ c.in-Bytes-2.bytes.items ∷ []) answer.status (texts_of answer) (source, (before, tt))
    (Judges-driven top file script c.in-Bytes.source.items c.in-Bytes-2.bytes.items found.0 block answer.status (texts_of answer) described driven)

pub drive_block-requires-clause-waits : goal.drive_block-requires-clause-waits
drive_block-requires-clause-waits g c =
    let found = subst (λ d. IsFoundFor 0 (option_copied c.args.top) c.args.file.now c.deref.result.now d) c.in-Clean.is c.in_ok-block.ensures in
    found.1.block.waits_
