use Rattle.gen_scene.proofs.Sources.{view_is, view_placed}
use Rattle.gen_scene.proofs.scene.Scene.view_gate.Goals as goal

pub returns-in-Some : goal.returns-in-Some
returns-in-Some c net h = rw c.gated.ensures (view_is net c.args.self.now c.args.number c.args.view.now h c.in-Some.place c.in-Some.ensures)

pub returns-in-None : goal.returns-in-None
returns-in-None c net h = absurd (view_placed net c.args.self.now c.args.number c.args.view.now h c.in-None.ensures)
