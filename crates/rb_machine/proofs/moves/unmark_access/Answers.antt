use Rattle.std.proofs.Common.{◌∙◌, ap, List, get_or, length, refl, subst}
use Rattle.std.proofs.lemmas.Option.{slice_get_read}
use Rattle.rb_model.specs.declared.block.Word.{Word}
use Rattle.rb_machine.specs.Scene.{mark_at}
use Rattle.rb_machine.specs.Keeping.{AreMarksOf}
use Rattle.rb_machine.specs.Transfers.{IsThere, access_seen}
use Rattle.rb_machine.proofs.Reaching.{unmarked, read_reaches, write_reaches}
use Rattle.rb_machine.proofs.moves.unmark_access.Goals as goal

pub returns-in-Off : goal.returns-in-Off
returns-in-Off c k = subst (λ a. AreMarksOf c.args.block.now (access_seen a) c.args.marks.now) c.in-Off.is c.requires.marks k refl

pub returns-in-Read : goal.returns-in-Read
returns-in-Read c k =
    let b = c.args.block.now in
    let w = c.index.result.now in
    let there = subst (IsThere b) c.in-Read.is c.requires.there in
    let here = slice_get_read b.reads (length b.reads) c.in-Read.number w refl there (c.index.ensures ∙ ap (λ (ws : List Word). get_or ws c.in-Read.number w) (ap (λ b. b.reads) c.block.view_is)) in
    let marks = subst (λ a. AreMarksOf b (access_seen a) c.args.marks.now) c.in-Read.is c.requires.marks in
    unmarked b k w.slots (mark_at c.args.marks.now k) (mark_at c.unmark.new.marks k) (λ none. marks k (read_reaches b k c.in-Read.number w here ∙ none)) (c.unmark.ensures k)

pub returns-in-Write : goal.returns-in-Write
returns-in-Write c k =
    let b = c.args.block.now in
    let w = c.index-in-Write.result.now in
    let there = subst (IsThere b) c.in-Write.is c.requires.there in
    let here = slice_get_read b.writes (length b.writes) c.in-Write.number w refl there (c.index-in-Write.ensures ∙ ap (λ (ws : List Word). get_or ws c.in-Write.number w) (ap (λ b. b.writes) c.block.view_is)) in
    let marks = subst (λ a. AreMarksOf b (access_seen a) c.args.marks.now) c.in-Write.is c.requires.marks in
    unmarked b k w.slots (mark_at c.args.marks.now k) (mark_at c.unmark-in-Write.new.marks k) (λ none. marks k (write_reaches b k c.in-Write.number c.in-Write.field-1 w here ∙ none)) (c.unmark-in-Write.ensures k)
