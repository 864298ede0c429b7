use Rattle.v_design.specs.Seen.{module_seen}
use Rattle.cyc_sim.proofs.Engines.{narrow_held, narrow_of_program, narrow_start_length}
use Rattle.cyc_sim.proofs.sim.Engine.narrow.Goals as goal

pub new-requires : goal.new-requires
new-requires c = narrow_start_length (module_seen c.args.design.now) c.args.program c.args.start.now c.requires.program c.requires.start

pub returns-clause-simulates : goal.returns-clause-simulates
returns-clause-simulates c =
    narrow_of_program (module_seen c.args.design.now) c.args.program c.in_ok-sim.sim c.args.start.now c.requires.program c.in_ok-sim.ensures.program c.in_ok-sim.ensures.start c.in_ok-sim.ensures.constants
    c.in_ok-sim.ensures.schedule c.requires.start

pub returns-clause-start : goal.returns-clause-start
returns-clause-start c = narrow_held (module_seen c.args.design.now) c.in_ok-sim.sim c.args.start.now c.in_ok-sim.ensures.start c.requires.program.narrow.contents c.requires.start
