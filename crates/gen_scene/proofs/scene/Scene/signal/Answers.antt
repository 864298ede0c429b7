use Rattle.gen_scene.proofs.Sources.{signal_is, signal_placed}
use Rattle.gen_scene.proofs.scene.Scene.signal.Goals as goal

pub returns-in-Some : goal.returns-in-Some
returns-in-Some c net g base here = rw c.id_at.ensures (signal_is net c.args.self.now c.args.number g base here c.in-Some.place c.in-Some.ensures)

pub returns-in-None : goal.returns-in-None
returns-in-None c net g base here = absurd (signal_placed net c.args.self.now c.args.number g base here c.in-None.ensures)
