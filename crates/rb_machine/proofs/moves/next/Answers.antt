use Rattle.rb_model.specs.Items.{NoAccess}
use Rattle.rb_machine.specs.Scene.{now_in}
use Rattle.rb_machine.proofs.Moving.{next_at}
use Rattle.rb_machine.proofs.moves.next.Goals as goal

pub returns-in-Some : goal.returns-in-Some
returns-in-Some c f here =
    let s = c.args.scene.now in
    next_at s c.args.table.now c.args.number c.in-Some.at c.in-Some.ensures f here c.args.state c.ended.result c.reset_state.result c.kept_state.result c.is_under_reset-asserted.result
    (c.ended.ensures (now_in s NoAccess) c.args.number (c.in-Some.ensures.sees NoAccess)) (c.is_under_reset-asserted.ensures c.args.number c.in-Some.ensures.here) c.reset_state.ensures c.kept_state.ensures
