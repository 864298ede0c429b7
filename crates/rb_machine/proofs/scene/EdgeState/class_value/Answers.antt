use Rattle.rb_machine.specs.Scene.{now_in}
use Rattle.rb_machine.proofs.Scenes.{made_field}
use Rattle.rb_machine.proofs.scene.EdgeState.class_value.Goals as goal

pub returns-in-Some : goal.returns-in-Some
returns-in-Some c a =
    let s = c.args.self.now in
    made_field s c.args.table.now c.args.number c.in-Some.at c.in-Some.ensures a c.class_value.result (c.class_value.ensures (now_in s a) c.args.number (c.in-Some.ensures.sees a))
