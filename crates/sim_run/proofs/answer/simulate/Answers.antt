use Rattle.sim_run.proofs.answer.simulate.Goals as goal

pub module_run-requires-clause-accepted : goal.module_run-requires-clause-accepted
module_run-requires-clause-accepted c =
    let of = c.in-Ok.ensures.ok.is_module in
    record { bytes = c.args.verilog.now; tree = of.tree; spelled = of.is_tree; formed = of.well_formed; is = of.is }

pub module_run-requires-clause-fit : goal.module_run-requires-clause-fit
module_run-requires-clause-fit c = c.in-Ok.ensures.ok.fit
