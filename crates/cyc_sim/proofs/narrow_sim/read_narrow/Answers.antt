use Rattle.std.proofs.Common.{arith}
use Rattle.cyc_sim.proofs.Places.{place_below}
use Rattle.cyc_sim.proofs.narrow_sim.read_narrow.Goals as goal

pub bounds-values-place : goal.bounds-values-place
bounds-values-place c = place_below _ c.args.places.now c.loop-index.index c.requires.within c.loop-index-test.true

pub offset_bounds-values-place : goal.offset_bounds-values-place
offset_bounds-values-place c = let low = place_below _ c.args.places.now c.loop-index.index c.requires.within c.loop-index-test.true in omega (arith, low)
