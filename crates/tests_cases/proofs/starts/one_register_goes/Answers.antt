use Rattle.v_design.specs.Seen.{module_seen}
use Rattle.tests_cases.proofs.Starting.{goes}
use Rattle.tests_cases.proofs.starts.one_register_goes.Goals as goal

pub returns : goal.returns
returns c = goes (module_seen c.args.design.now) c.args.sim.now c.requires.is_sim c.requires.one
