use Rattle.gen_scene.proofs.Sources.{own_refs}
use Rattle.gen_scene.proofs.scene.Scene.down.Goals as goal

pub counted_down-requires-clause-refs : goal.counted_down-requires-clause-refs
counted_down-requires-clause-refs c = (own_refs c.args.net.now c.args.self.now c.args.number c.args.field.now c.requires).count
