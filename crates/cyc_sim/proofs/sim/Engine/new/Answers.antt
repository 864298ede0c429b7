use Rattle.std.proofs.lemmas.Bool.{OnTrue_at}
use Rattle.v_design.specs.Seen.{module_seen}
use Rattle.cyc_sim.proofs.Engines.{narrow_program_of}
use Rattle.cyc_sim.proofs.sim.Engine.new.Goals as goal

pub narrow-requires-clause-program : goal.narrow-requires-clause-program
narrow-requires-clause-program c =
    narrow_program_of (module_seen c.args.design.now) c.args.program c.in-Ok.narrow c.requires.program (OnTrue_at c.if-not-is_narrow.false c.is_narrow.ensures) c.in-Ok.ensures
