use Rattle.v_design.specs.Seen.{module_seen}
use Rattle.cyc_sim.specs.Simulation.{held}
use Rattle.cyc_sim.proofs.Engines.{sim_of}
use Rattle.cyc_sim.proofs.sim.Sim.new.Goals as goal

pub returns-clause-simulates : goal.returns-clause-simulates
returns-clause-simulates c = sim_of (module_seen c.args.design.now) _ c.in_ok-engine.ensures.simulates

pub returns-clause-start : goal.returns-clause-start
unfolding held
returns-clause-start c = c.in_ok-engine.ensures.start
