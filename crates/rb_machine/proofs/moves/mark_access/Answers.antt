use Rattle.std.proofs.Common.{◌∙◌, ap, sym, List, get_or, length, refl, subst}
use Rattle.std.proofs.lemmas.Option.{slice_get_read}
use Rattle.rb_model.specs.declared.block.Word.{Word}
use Rattle.rb_machine.specs.Scene.{mark_at}
use Rattle.rb_machine.specs.Slots.{read_mark, write_mark}
use Rattle.rb_machine.specs.Transfers.{IsThere, access_seen}
use Rattle.rb_machine.specs.Keeping.{is_reached}
use Rattle.rb_machine.proofs.Accessing.{read_marks, write_marks}
use Rattle.rb_machine.proofs.Reaching.{left_by, read_reaches, write_reaches}
use Rattle.rb_machine.proofs.moves.mark_access.Goals as goal

pub returns-in-Read-clause-strobes : goal.returns-in-Read-clause-strobes
returns-in-Read-clause-strobes c =
    let b = c.args.block.now in
    let w = c.index.result.now in
    let there = subst (IsThere b) c.in-Read.is c.requires.there in
    let here = slice_get_read b.reads (length b.reads) c.in-Read.number w refl there (c.index.ensures ∙ ap (λ (ws : List Word). get_or ws c.in-Read.number w) (ap (λ b. b.reads) c.block.view_is)) in
    rw c.in-Read.is (read_marks b c.in-Read.number w c.unmark_access.new.marks c.mark_read.new.marks here c.unmark_access.ensures c.mark_read.ensures)

pub returns-in-Read-clause-marks : goal.returns-in-Read-clause-marks
returns-in-Read-clause-marks c k none =
    let b = c.args.block.now in
    let w = c.index.result.now in
    let there = subst (IsThere b) c.in-Read.is c.requires.there in
    let here = slice_get_read b.reads (length b.reads) c.in-Read.number w refl there (c.index.ensures ∙ ap (λ (ws : List Word). get_or ws c.in-Read.number w) (ap (λ b. b.reads) c.block.view_is)) in
    let past = sym (read_reaches b k c.in-Read.number w here) ∙ (sym (ap (λ a. is_reached b (access_seen a) k) c.in-Read.is) ∙ none) in
    c.mark_read.ensures k ∙ (left_by b k read_mark (mark_at c.unmark_access.new.marks k) w.slots past ∙ c.unmark_access.ensures k)

pub returns-in-Write-clause-strobes : goal.returns-in-Write-clause-strobes
returns-in-Write-clause-strobes c =
    let b = c.args.block.now in
    let w = c.index-in-Write.result.now in
    let there = subst (IsThere b) c.in-Write.is c.requires.there in
    let here = slice_get_read b.writes (length b.writes) c.in-Write.number w refl there (c.index-in-Write.ensures ∙ ap (λ (ws : List Word). get_or ws c.in-Write.number w) (ap (λ b. b.writes) c.block.view_is)) in
    rw c.in-Write.is (write_marks b c.in-Write.number c.in-Write.field-1 w c.unmark_access.new.marks c.mark_write.new.marks here c.unmark_access.ensures c.mark_write.ensures)

pub returns-in-Write-clause-marks : goal.returns-in-Write-clause-marks
returns-in-Write-clause-marks c k none =
    let b = c.args.block.now in
    let w = c.index-in-Write.result.now in
    let there = subst (IsThere b) c.in-Write.is c.requires.there in
    let here = slice_get_read b.writes (length b.writes) c.in-Write.number w refl there (c.index-in-Write.ensures ∙ ap (λ (ws : List Word). get_or ws c.in-Write.number w) (ap (λ b. b.writes) c.block.view_is)) in
    let past = sym (write_reaches b k c.in-Write.number c.in-Write.field-1 w here) ∙ (sym (ap (λ a. is_reached b (access_seen a) k) c.in-Write.is) ∙ none) in
    c.mark_write.ensures k ∙ (left_by b k write_mark (mark_at c.unmark_access.new.marks k) w.slots past ∙ c.unmark_access.ensures k)
