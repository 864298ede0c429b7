use Rattle.rb_machine.proofs.Briefs.{brief_wide}
use Rattle.rb_machine.proofs.scene.EdgeState.all_ones.Goals as goal

pub ones-requires : goal.ones-requires
ones-requires c = brief_wide c.args.self.now.block.now c.requires.sound c.args.number c.in-Some.brief c.in-Some.ensures
