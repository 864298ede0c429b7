use Rattle.std.proofs.Common.{ℕ, List, [], ◌∷◌, option_copied, subst}
use Rattle.command_line.specs.Words.{Command, manual_of}
use Rattle.replies.specs.Loaded.{IsLoaded}
use Rattle.replies.specs.Outcome.{Judges, FailedRead, source_limit}
use Rattle.replies.specs.Reply.{status_of, told_by}
use Rattle.replies.proofs.Rows.{Answers-judged}
use Rattle.replies.proofs.documenting.manual_file.Goals as goal

pub returns-in_ok-reply-in-Bytes-clause-answers : goal.returns-in_ok-reply-in-Bytes-clause-answers
returns-in_ok-reply-in-Bytes-clause-answers g c = λ dump has.
    let reply = c.in_ok-reply-in-Bytes.reply in
    let contents = g.S.Shelf.contents c.args.shelf.now in
    let failed = FailedRead g.S.Shelf.faults c.args.shelf.now c.load_file.new.shelf in
    let read = subst (λ l. IsLoaded contents failed c.args.file.now source_limit l) c.in-Bytes.is c.in_ok-source.ensures.loaded in
    let command : Command = manual_of (option_copied c.args.top) c.args.file.now in
    let P : List ℕ → Type 0 = λ source. Judges command (source ∷ []) (status_of reply) (told_by reply dump) in
    Answers-judged contents failed command (c.in-Bytes.source.items ∷ []) (status_of reply) (told_by reply dump) (read, tt)
    (subst P c.deref.ensures.value (c.in_ok-reply-in-Bytes.ensures.judged dump has))
