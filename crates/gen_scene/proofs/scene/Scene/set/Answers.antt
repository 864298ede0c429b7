use Rattle.gen_scene.proofs.Sources.{set_is, placed}
use Rattle.gen_scene.proofs.scene.Scene.set.Goals as goal

pub returns-in-Some : goal.returns-in-Some
returns-in-Some c net h = rw c.fed.ensures (set_is net c.args.self.now c.args.number c.args.field.now h c.in-Some.places c.in-Some.ensures)

pub returns-in-None : goal.returns-in-None
returns-in-None c net h = absurd (placed net c.args.self.now c.args.number c.args.field.now h c.in-None.ensures)
