use Rattle.std.proofs.Common.{if◌then◌else◌, subst}
use Rattle.rb_model.specs.Kept.{Last, keeps_last}
use Rattle.gen_scene.specs.Worth.{MayBeWorth}
use Rattle.gen_scene.proofs.Sources.{field_width, places_known, places_there}
use Rattle.gen_scene.proofs.base.Base.last.Goals as goal

pub returns-in-Some : goal.returns-in-Some
returns-in-Some c net f base here =
    subst (λ w. MayBeWorth c.args.self.now.block.now c.args.self.now.inlet net c.register.result w (λ n v. if keeps_last f.latch then n.kept (Last c.args.number) else 0)) (field_width c.args.self.now.block.now c.args.number f here)
    (c.register.ensures net (keeps_last f.latch) (Last c.args.number) base (places_known net c.args.self.now c.args.number f base here c.in-Some.places c.in-Some.ensures).last)

pub returns-in-None : goal.returns-in-None
returns-in-None c net f base here = absurd (places_there net c.args.self.now c.args.number f base here c.in-None.ensures)
