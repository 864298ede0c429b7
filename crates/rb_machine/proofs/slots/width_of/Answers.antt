use Rattle.std.proofs.Common.{◌∙◌, List, ap, get_or, length, refl}
use Rattle.std.proofs.lemmas.Option.{slice_get_read}
use Rattle.rb_model.specs.declared.block.Field.{Field}
use Rattle.rb_model.specs.SoundField.{FieldIsSoundIn}
use Rattle.rb_model.proofs.Eachs.{Each-from_zero}
use Rattle.rb_machine.proofs.slots.width_of.Goals as goal

pub returns-clause-small : goal.returns-clause-small
returns-clause-small c =
    let b = c.args.block.now in
    let f = c.index.result.now in
    let here = slice_get_read b.fields (length b.fields) c.args.number f refl c.requires.there (c.index.ensures ∙ ap (λ (xs : List Field). get_or xs c.args.number f) (ap (λ b. b.fields) c.block.view_is)) in
    (Each-from_zero (FieldIsSoundIn b) b.fields c.args.number f c.requires.sound.fields here).alone.wide.1
