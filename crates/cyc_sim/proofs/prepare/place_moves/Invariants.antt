use Rattle.v_design.specs.Seen.{module_seen}
use Rattle.cyc_sim.specs.Preparing.{Prepared, Moving}
use Rattle.cyc_sim.proofs.Standing.{RegistersBelow}
use Rattle.cyc_sim.proofs.prepare.place_moves.Given as goal

abbrev pub invariant-loop-stmt : goal.invariant-loop-stmt
invariant-loop-stmt l = record {
  prepared : Prepared (module_seen l.design) l.known l.listing;
  moving : Moving (module_seen l.design) l.moves l.listing;
  registers : RegistersBelow l.moves (module_seen l.design).steps l.stmt-index;
}
