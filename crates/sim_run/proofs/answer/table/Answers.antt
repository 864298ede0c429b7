use Rattle.std.proofs.Common.{◌≢◌, ap, sym, ◌∙◌, subst, length, arith}
use Rattle.std.specs.List.{AllPairs}
use Rattle.v_design.specs.Design.{outputs}
use Rattle.v_design.specs.Seen.{module_seen}
use Rattle.stim_csv.specs.PinTable.{table_of, records_of}
use Rattle.report_text.specs.Problems.{problem_text}
use Rattle.sim_run.proofs.Tables.{outputs_below, apart, is_problem}
use Rattle.sim_run.proofs.answer.table.Goals as goal

pub overflow_cast-outputs : goal.overflow_cast-outputs
overflow_cast-outputs c =
    let below = outputs_below c.args.verilog.now c.args.design.now (length c.args.verilog.now) c.requires.few in
    omega (arith, below, ap length c.outputs.ensures, c.requires.small)

pub read-requires : goal.read-requires
read-requires c = subst (AllPairs (λ p q. p.name ≢ q.name)) (sym c.inputs.ensures) (apart c.args.verilog.now c.args.design.now c.requires.is)

pub returns-in-Ok-problem_text : goal.returns-in-Ok-problem_text
returns-in-Ok-problem_text c =
    let m = module_seen c.args.design.now in
    let found = c.in-Err.ensures.problem c.in-Ok-problem_text.ensures.problem in
    let under = ap (λ ps. table_of ps (length (outputs m)) (records_of c.args.stimulus.now)) (sym c.inputs.ensures) ∙ ap (λ n. table_of c.inputs.result.now (length n) (records_of c.args.stimulus.now)) (sym c.outputs.ensures) in
    record {
      ok = tt;
      err = is_problem c.args.verilog.now c.args.design.now c.args.stimulus.now c.in-Ok-problem_text.text.items c.in-Err.problem c.requires.is (under ∙ found)
          (c.in-Ok-problem_text.ensures.text ∙ ap (λ ps. problem_text ps c.in-Err.problem) c.inputs-2.ensures);
    }
