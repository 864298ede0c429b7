use Rattle.std.proofs.Common.{[], ◌∷◌, subst}
use Rattle.command_line.specs.Words.{vcd}
use Rattle.replies.specs.Loaded.{IsLoaded}
use Rattle.replies.specs.Outcome.{Judges, FailedRead, IsRead, source_limit, verilog_limit}
use Rattle.replies.specs.Reply.{status_of, told_by}
use Rattle.replies.proofs.Rows.{Answers-judged}
use Rattle.replies.proofs.waving.dump_files.Goals as goal

pub returns-clause-answers : goal.returns-clause-answers
returns-clause-answers g c = λ dump has.
    let reply = c.in_ok-reply.reply in
    let contents = g.S.Shelf.contents c.args.shelf.now in
    let later = g.S.Shelf.contents c.load_file.new.shelf in
    let file = c.args.file.now in
    let table = c.args.table.now in
    let verilog = subst (λ l. IsLoaded contents (FailedRead g.S.Shelf.faults c.args.shelf.now c.load_file.new.shelf) file verilog_limit l) c.in-Bytes.is c.in_ok-verilog.ensures.loaded in
    let stimulus = subst (λ l. IsLoaded later (FailedRead g.S.Shelf.faults c.load_file.new.shelf c.load_file-2.new.shelf) table source_limit l) c.in-Bytes-2.is c.in_ok-stimulus.ensures.loaded in
    let before = subst (λ k. IsRead k table source_limit c.in-Bytes-2.stimulus.items) c.in_ok-verilog.ensures.unchanged stimulus in
    let judged = subst (λ v. Judges (vcd file table) (v ∷ c.in-Bytes-2.stimulus.items ∷ []) (status_of reply) (told_by reply dump)) c.deref.ensures.value
    (subst (λ s. Judges (vcd file table) (c.deref.result.now ∷ s ∷ []) (status_of reply) (told_by reply dump)) c.deref-2.ensures.value (c.in_ok-reply.ensures.judged dump has)) in
    Answers-judged contents (FailedRead g.S.Shelf.faults c.args.shelf.now c.load_file-2.new.shelf) (vcd file table) (c.in-Bytes.verilog.items ∷ c.in-Bytes-2.stimulus.items ∷ []) (status_of reply) (told_by reply dump) (verilog, (before, tt)) judged
