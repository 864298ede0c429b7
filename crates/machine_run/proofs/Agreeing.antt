-- The run of a block's machine as that of a module which agrees with the block.
use Rattle.std.proofs.Common.{ℕ, List, length, get_or, refl, ap, sym, ◌∙◌}
use Rattle.std.proofs.lemmas.Nat.{pow_pos}
use Rattle.rb_base.specs.declared.ports.Port.{Port}
use Rattle.v_design.specs.Design.{inputs_among, module_of, outputs_among}
use Rattle.rb_model.specs.declared.block.Block.{Block}
use Rattle.rb_model.specs.Agreement.{Agrees}
use Rattle.rb_model.specs.Kept.{Fits, kept, register_width}
use Rattle.rb_model.specs.Run.{apb}
use Rattle.rb_model.specs.Sound.{IsSound}
use Rattle.rb_model.proofs.ApbFront.{contain, within}
use Rattle.stim_csv.specs.PinTable.{table_of, records_of}
use Rattle.report_text.specs.Printed.{printed_run}
use Rattle.sim_run.specs.Simulated.{IsSimulated}
use Rattle.sim_run.specs.Simulated as simulated
use Rattle.machine_run.specs.Runs.{IsRunOf, zeros}
use Rattle.machine_run.proofs.Tables.{tables_fit}

zeros_fit : (b : Block) → Fits b zeros
zeros_fit b k d within = pow_pos (register_width b (get_or (kept b) k d))

pub agree : (b : Block) (verilog stimulus text : List ℕ) → IsSound b → Agrees verilog (apb b) → IsRunOf b stimulus text → IsSimulated verilog stimulus text
agree b verilog stimulus text sound agrees of = record {
  module_ = module_of agrees.tree;
  vectors = of.vectors;
  is_module = record { tree = agrees.tree; is_tree = agrees.is_tree; well_formed = agrees.well_formed; is = refl };
  table = ap (λ (ps : List Port). table_of (inputs_among ps) (length (outputs_among ps)) (records_of stimulus)) agrees.ported ∙ of.table;
  run = record {
    results = of.results;
    run = agrees.runs zeros simulated.zeros of.vectors of.results (within b zeros (zeros_fit b)) (contain b zeros simulated.zeros (λ k has. refl)) (tables_fit b sound stimulus of.vectors of.table) of.kept of.run;
    printed = of.printed ∙ ap (λ (ps : List Port). printed_run (outputs_among ps) of.results) (sym agrees.ported);
  };
}
