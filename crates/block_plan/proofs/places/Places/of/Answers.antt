use Rattle.std.proofs.Common.{sym}
use Rattle.block_plan.proofs.Knowing.{found_place, no_place}
use Rattle.block_plan.proofs.places.Places.of.Goals as goal

pub returns-in-Some : goal.returns-in-Some
returns-in-Some c = found_place c.args.self.now c.requires c.args.name.now c.in-Some.place.now (sym c.in-Some.ensures.value)

pub returns-in-None : goal.returns-in-None
returns-in-None c = no_place c.args.self.now c.requires c.args.name.now (sym c.in-None.ensures.value)
