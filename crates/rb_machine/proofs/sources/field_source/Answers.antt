use Rattle.std.proofs.Common.{◌≡◌, ◌∙◌, ap}
use Rattle.rb_machine.proofs.Scenes.{read_at}
use Rattle.rb_machine.proofs.sources.field_source.Goals as goal

pub returns-in-Some : goal.returns-in-Some
returns-in-Some c =
    let b = c.args.block.now in
    let e : c.deref.result.now ≡ b.fields = c.deref.ensures.value ∙ ap (λ b. b.fields) c.block.view_is in
    let here = read_at _ b.fields c.args.number c.in-Some.field.now e c.in-Some.ensures.lookup.3.0 c.in-Some.ensures.lookup.1 in
    c.class_source.ensures b c.requires.planned here
