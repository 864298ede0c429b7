use Rattle.v_design.specs.Seen.{module_seen}
use Rattle.cyc_sim.proofs.Engines.{start_length, wide_of_program}
use Rattle.cyc_sim.proofs.sim.Engine.wide.Goals as goal

pub new-requires : goal.new-requires
new-requires c = start_length (module_seen c.args.design.now) c.args.program c.args.start.now c.requires.program c.requires.start

pub returns-clause-simulates : goal.returns-clause-simulates
returns-clause-simulates c =
    wide_of_program (module_seen c.args.design.now) c.args.program c.in_ok-sim.sim c.args.start.now c.requires.program c.in_ok-sim.ensures.program c.in_ok-sim.ensures.start c.requires.start
