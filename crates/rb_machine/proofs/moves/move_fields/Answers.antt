use Rattle.std.proofs.Common.{ap}
use Rattle.rb_model.specs.Items.{NoAccess}
use Rattle.rb_machine.specs.Scene.{now_in, state_at}
use Rattle.rb_machine.specs.Table.{values_of}
use Rattle.rb_machine.specs.Transfers.{access_seen}
use Rattle.rb_machine.proofs.Plainly.{at_edge}
use Rattle.rb_machine.proofs.moves.move_fields.Goals as goal

pub returns : goal.returns
returns c k f here =
    let s = c.args.scene.now in
    at_edge s.block.now c.requires.scene.sound (now_in s NoAccess) (values_of c.args.table.now) k f here (access_seen c.args.access) s.is_reset
    (state_at c.args.states.now k) (state_at s.held.now.fields.items k) (state_at c.start.new.states k) (state_at c.begin.new.states k) (state_at c.software.new.states k) (state_at c.finish.new.states k)
    (c.start.ensures k f here) (c.begin.ensures (values_of c.args.table.now) k f here) (c.software.ensures k) (c.finish.ensures k f here) (λ z. ap (λ states. state_at states k) (c.requires.held z)) (λ z. c.requires.scene.kept z k f here) (λ z. c.requires.scene.calm z k f here)
