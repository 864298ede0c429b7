use Rattle.rb_model.specs.Kept.{Done}
use Rattle.gen_scene.proofs.Sources.{places_known, places_there}
use Rattle.gen_scene.proofs.base.Base.done.Goals as goal

pub returns-in-Some : goal.returns-in-Some
returns-in-Some c net f base here = c.register.ensures net (f.once) (Done c.args.number) base (places_known net c.args.self.now c.args.number f base here c.in-Some.places c.in-Some.ensures).done

pub returns-in-None : goal.returns-in-None
returns-in-None c net f base here = absurd (places_there net c.args.self.now c.args.number f base here c.in-None.ensures)
