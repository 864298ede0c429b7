use Rattle.rb_model.specs.Items.{NoAccess}
use Rattle.rb_machine.specs.Scene.{now_in}
use Rattle.rb_machine.proofs.Moving.{started_at}
use Rattle.rb_machine.proofs.moves.started.Goals as goal

pub returns-in-Some : goal.returns-in-Some
returns-in-Some c f here =
    let s = c.args.scene.now in
    started_at s c.args.table.now c.args.number c.in-Some.at c.in-Some.ensures f here c.started.result (c.started.ensures (now_in s NoAccess) c.args.number (c.in-Some.ensures.sees NoAccess))
