use Rattle.v_design.specs.Design.{inputs}
use Rattle.v_design.specs.Seen.{module_seen}
use Rattle.cyc_sim.specs.Preparing.{KnowsPins, Prepared}
use Rattle.cyc_sim.proofs.Standing.{RegistersBelow}
use Rattle.cyc_sim.proofs.prepare.place_registers.Given as goal

abbrev pub invariant-loop-stmt : goal.invariant-loop-stmt
invariant-loop-stmt l = record {
  prepared : Prepared (module_seen l.design) l.known l.listing;
  pins : KnowsPins l.known (inputs (module_seen l.design));
  registers : RegistersBelow l.known (module_seen l.design).steps l.stmt-index;
}
