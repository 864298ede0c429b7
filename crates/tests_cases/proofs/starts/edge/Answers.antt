use Rattle.std.proofs.Common.{◌∙◌, sym}
use Rattle.v_design.specs.Design.{inputs}
use Rattle.v_design.specs.Seen.{module_seen}
use Rattle.cyc_sim.proofs.Facts.{fits_length}
use Rattle.tests_cases.proofs.Starting.{goes_on}
use Rattle.tests_cases.proofs.starts.edge.Goals as goal

pub step-requires-clause-pins : goal.step-requires-clause-pins
step-requires-clause-pins c = fits_length (inputs (module_seen c.args.design.now)) c.args.pins.now c.requires.pins ∙ sym c.requires.goes.is_sim.takes

pub step-requires-clause-outs : goal.step-requires-clause-outs
step-requires-clause-outs c = c.requires.outs ∙ sym c.requires.goes.is_sim.gives

pub returns : goal.returns
returns c = goes_on (module_seen c.args.design.now) c.args.sim.now c.step.new.self c.args.pins.now c.step.new.outs c.requires.pins c.requires.goes c.step.ensures.edge
