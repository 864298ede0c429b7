use Rattle.std.proofs.Common.{◌∙◌, ap, false, true, sym, List, get_or, length, refl, subst, ◌≡◌}
use Rattle.std.proofs.lemmas.Option.{slice_get_read}
use Rattle.rb_model.specs.declared.block.Word.{Word}
use Rattle.rb_machine.specs.Keeping.{is_reached}
use Rattle.rb_machine.specs.Scene.{state_at}
use Rattle.rb_machine.specs.Transfers.{IsThere, access_seen}
use Rattle.rb_machine.proofs.Reaching.{left_by, made_by, read_reaches, write_reaches}
use Rattle.rb_machine.proofs.keeping.take_access.Goals as goal

pub returns-in-Off-clause-taken : goal.returns-in-Off-clause-taken
returns-in-Off-clause-taken c k some = let z : false ≡ true = sym (ap (λ a. is_reached c.args.block.now (access_seen a) k) c.in-Off.is) ∙ some in cc

pub returns-in-Read-clause-taken : goal.returns-in-Read-clause-taken
returns-in-Read-clause-taken c k some =
    let b = c.args.block.now in
    let w = c.index.result.now in
    let there = subst (IsThere b) c.in-Read.is c.requires.there in
    let here = slice_get_read b.reads (length b.reads) c.in-Read.number w refl there (c.index.ensures ∙ ap (λ (ws : List Word). get_or ws c.in-Read.number w) (ap (λ b. b.reads) c.block.view_is)) in
    let past = sym (read_reaches b k c.in-Read.number w here) ∙ (sym (ap (λ a. is_reached b (access_seen a) k) c.in-Read.is) ∙ some) in
    let states = c.args.states.now in
    c.take_word.ensures k ∙ made_by b k (λ w s x. state_at states w.field) (state_at states k) (λ w s x e. ap (state_at states) e) (state_at c.args.fields.now k) w.slots past

pub returns-in-Read-clause-same : goal.returns-in-Read-clause-same
returns-in-Read-clause-same c k none =
    let b = c.args.block.now in
    let w = c.index.result.now in
    let there = subst (IsThere b) c.in-Read.is c.requires.there in
    let here = slice_get_read b.reads (length b.reads) c.in-Read.number w refl there (c.index.ensures ∙ ap (λ (ws : List Word). get_or ws c.in-Read.number w) (ap (λ b. b.reads) c.block.view_is)) in
    let past = sym (read_reaches b k c.in-Read.number w here) ∙ (sym (ap (λ a. is_reached b (access_seen a) k) c.in-Read.is) ∙ none) in
    c.take_word.ensures k ∙ left_by b k (λ w s x. state_at c.args.states.now w.field) (state_at c.args.fields.now k) w.slots past

pub returns-in-Write-clause-taken : goal.returns-in-Write-clause-taken
returns-in-Write-clause-taken c k some =
    let b = c.args.block.now in
    let w = c.index-in-Write.result.now in
    let there = subst (IsThere b) c.in-Write.is c.requires.there in
    let here = slice_get_read b.writes (length b.writes) c.in-Write.number w refl there (c.index-in-Write.ensures ∙ ap (λ (ws : List Word). get_or ws c.in-Write.number w) (ap (λ b. b.writes) c.block.view_is)) in
    let past = sym (write_reaches b k c.in-Write.number c.in-Write.field-1 w here) ∙ (sym (ap (λ a. is_reached b (access_seen a) k) c.in-Write.is) ∙ some) in
    let states = c.args.states.now in
    c.take_word-in-Write.ensures k ∙ made_by b k (λ w s x. state_at states w.field) (state_at states k) (λ w s x e. ap (state_at states) e) (state_at c.args.fields.now k) w.slots past

pub returns-in-Write-clause-same : goal.returns-in-Write-clause-same
returns-in-Write-clause-same c k none =
    let b = c.args.block.now in
    let w = c.index-in-Write.result.now in
    let there = subst (IsThere b) c.in-Write.is c.requires.there in
    let here = slice_get_read b.writes (length b.writes) c.in-Write.number w refl there (c.index-in-Write.ensures ∙ ap (λ (ws : List Word). get_or ws c.in-Write.number w) (ap (λ b. b.writes) c.block.view_is)) in
    let past = sym (write_reaches b k c.in-Write.number c.in-Write.field-1 w here) ∙ (sym (ap (λ a. is_reached b (access_seen a) k) c.in-Write.is) ∙ none) in
    c.take_word-in-Write.ensures k ∙ left_by b k (λ w s x. state_at c.args.states.now w.field) (state_at c.args.fields.now k) w.slots past
