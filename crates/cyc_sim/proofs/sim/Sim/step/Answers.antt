use Rattle.std.proofs.Common.{refl}
use Rattle.cyc_sim.proofs.Engines.{narrow_step, wide_step}
use Rattle.cyc_sim.proofs.sim.Sim.step.Goals as goal

pub returns-in-Wide : goal.returns-in-Wide
returns-in-Wide c = record {
  edge = λ m sim fits contents kept. wide_step m c.args.self.now _ c.in-Wide.sim c.step.new.self c.args.pins.now _ contents c.in-Wide.is refl (c.step.ensures.edge m) sim fits kept;
}

pub returns-in-Narrow : goal.returns-in-Narrow
returns-in-Narrow c = record {
  edge = λ m sim fits contents kept. narrow_step m c.args.self.now _ c.in-Narrow.sim c.step-in-Narrow.new.self c.args.pins.now _ contents c.in-Narrow.is refl (c.step-in-Narrow.ensures.edge m) sim fits kept;
}
