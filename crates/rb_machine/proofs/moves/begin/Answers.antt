use Rattle.rb_machine.proofs.Begun.{all_begun, steps_room}
use Rattle.rb_machine.proofs.moves.begin.Goals as goal

pub take_steps-requires-clause-rising : goal.take_steps-requires-clause-rising
take_steps-requires-clause-rising c = c.requires.scene.steps.rising

pub take_steps-requires-clause-room : goal.take_steps-requires-clause-room
take_steps-requires-clause-room c = let s = c.args.scene.now in steps_room s.block.now.fields s.plan.now.fields.items s.steps.now _ c.requires.scene.steps c.requires.sized

pub returns : goal.returns
returns c = all_begun c.args.scene.now c.requires.scene c.if-scene.false c.args.states.now c.take_steps.new.states c.take_steps.ensures.moved c.take_steps.ensures.others
