use Rattle.v_design.specs.Design.{inputs}
use Rattle.v_design.specs.Seen.{module_seen}
use Rattle.cyc_sim.specs.Preparing.{KnowsPins, Prepared}
use Rattle.cyc_sim.proofs.Standing.{KnowsBefore}
use Rattle.cyc_sim.proofs.prepare.place_nets.Given as goal

abbrev pub invariant-loop-index : goal.invariant-loop-index
invariant-loop-index l = record {
  prepared : Prepared (module_seen l.design) l.known l.listing;
  pins : KnowsPins l.known (inputs (module_seen l.design));
  before : KnowsBefore l.known (module_seen l.design).steps l.order l.index-index;
}
