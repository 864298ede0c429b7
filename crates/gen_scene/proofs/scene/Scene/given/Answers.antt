use Rattle.gen_scene.proofs.Sources.{given_is, given_placed}
use Rattle.gen_scene.proofs.scene.Scene.given.Goals as goal

pub returns-in-Some : goal.returns-in-Some
returns-in-Some c net base here refs = rw c.fed.ensures (given_is net c.args.self.now c.args.number c.args.field.now base here refs c.in-Some.places c.in-Some.ensures)

pub returns-in-None : goal.returns-in-None
returns-in-None c net base here refs = absurd (given_placed net c.args.self.now c.args.number c.args.field.now base here c.in-None.ensures)
