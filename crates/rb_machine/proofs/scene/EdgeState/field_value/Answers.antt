use Rattle.std.proofs.Common.{◌∙◌, sym}
use Rattle.rb_machine.specs.Scene.{now_in}
use Rattle.rb_machine.specs.Table.{values_of}
use Rattle.rb_machine.proofs.Briefs.{value_kept}
use Rattle.rb_machine.proofs.scene.EdgeState.field_value.Goals as goal

pub returns-then-stores : goal.returns-then-stores
returns-then-stores c a =
    let s = c.args.self.now in
    c.held_value.ensures ∙ value_kept s.block.now (now_in s a) (values_of c.args.table.now) c.args.number (sym c.stores.ensures ∙ c.if-stores.true)
