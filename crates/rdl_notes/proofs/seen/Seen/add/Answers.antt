use Rattle.std.proofs.Common.{◌∙◌, ◌++◌, ap, not}
use Rattle.word_groups.specs.Paths.{names_of}
use Rattle.rdl_notes.proofs.Adding.{found, put}
use Rattle.rdl_notes.proofs.seen.Seen.add.Goals as goal

pub returns-clause-new : goal.returns-clause-new
returns-clause-new c =
    let path = c.in_ok-push_names.ensures ∙ ap (λ bs. bs ++ names_of c.args.path.now) c.new-names.ensures.items in
    let name = ap (λ s. s.name) c.note.view_is in
    let desc = ap (λ s. s.desc) c.note.view_is in
    c.in_ok-new.ensures.added
    ∙ ap not (found (record { path = c.args.path.now; said = c.args.note.now }) (c.push_names.new.text, c.note.inside.name, c.note.inside.desc) path name desc c.args.self.now.groups.keys)

pub returns-clause-added : goal.returns-clause-added
returns-clause-added c =
    let path = c.in_ok-push_names.ensures ∙ ap (λ bs. bs ++ names_of c.args.path.now) c.new-names.ensures.items in
    let name = ap (λ s. s.name) c.note.view_is in
    let desc = ap (λ s. s.desc) c.note.view_is in
    put (record { path = c.args.path.now; said = c.args.note.now }) (c.push_names.new.text, c.note.inside.name, c.note.inside.desc) path name desc c.args.self.now.groups.keys
    c.in_ok-new.new c.insert.new.self.keys c.in_ok-new.ensures.added c.in_ok-new.ensures.keys c.in_ok-new.ensures.unchanged
