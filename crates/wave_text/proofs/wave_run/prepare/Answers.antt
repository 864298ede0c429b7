use Rattle.std.proofs.Common.{length, sym, subst}
use Rattle.v_design.specs.Design.{inputs, outputs}
use Rattle.v_design.specs.Seen.{module_seen}
use Rattle.stim_csv.specs.PinTable.{records_of}
use Rattle.sim_run.specs.Simulated.{IsReady}
use Rattle.wave_text.proofs.Few.{few_vectors}
use Rattle.wave_text.proofs.wave_run.prepare.Goals as goal

pub run_of-requires-clause-accepted : goal.run_of-requires-clause-accepted
run_of-requires-clause-accepted c =
    let of = c.in-Ok.ensures.ok.is_module in
    record { bytes = c.args.verilog.now; tree = of.tree; spelled = of.is_tree; formed = of.well_formed; is = of.is }

pub run_of-requires-clause-few : goal.run_of-requires-clause-few
run_of-requires-clause-few c =
    let m = module_seen c.in-Ok.run'.design in
    few_vectors (inputs m) (length (outputs m)) (records_of c.args.stimulus.now) c.in-Ok.run'.table c.in-Ok.ensures.ok.table
