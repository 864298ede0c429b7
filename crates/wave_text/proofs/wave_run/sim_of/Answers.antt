use Rattle.std.proofs.Common.{◌≡◌, ap, sym, ◌∙◌, subst, length, replicate}
use Rattle.v_design.specs.Design.{registers}
use Rattle.v_design.specs.Seen.{module_seen}
use Rattle.v_design.specs.Fits.{FitsPins}
use Rattle.v_design.specs.Run.{values_at}
use Rattle.cyc_sim.specs.Simulation.{held}
use Rattle.sim_run.specs.Simulated.{zeros}
use Rattle.sim_run.proofs.Tables.{zeros_fit, zeros_are}
use Rattle.plain_lemmas.proofs.Results.{if_ok-map}
use Rattle.wave_text.proofs.wave_run.sim_of.Goals as goal

pub new-requires-clause-start : goal.new-requires-clause-start
new-requires-clause-start c =
    let m = module_seen c.args.design.now in
    let zeros_of = c.deref.ensures.value ∙ (c.in_ok-start.ensures.items_if_clones_equal (λ y e. e) ∙ ap (λ ps. replicate (length ps) 0) c.registers.ensures) in
    subst (FitsPins (registers m)) (sym zeros_of) (zeros_fit (registers m))

pub returns-clause-zeroed : goal.returns-clause-zeroed
returns-clause-zeroed c =
    let m = module_seen c.args.design.now in
    let zeros_of = c.deref.ensures.value ∙ (c.in_ok-start.ensures.items_if_clones_equal (λ y e. e) ∙ ap (λ ps. replicate (length ps) 0) c.registers.ensures) in
    if_ok-map c.new.result (λ s. held s ≡ c.deref.result.now) (λ s. held s ≡ values_at zeros (registers m)) (λ s e. e ∙ (zeros_of ∙ zeros_are (registers m))) c.new.ensures.start
