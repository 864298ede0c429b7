use Rattle.std.proofs.Common.{take}
use Rattle.cyc_sim.specs.Compiled.{end_of, AreBelow}
use Rattle.v_design.specs.Seen.{expr_seen}
use Rattle.cyc_sim.proofs.Sizes.{size_of}
use Rattle.cyc_sim.proofs.Concatenating.{listed, MayCompile}
use Rattle.cyc_sim.proofs.compile.+compile.Given as goal

abbrev pub invariant-loop-part : goal.invariant-loop-part
invariant-loop-part l = record {
  below : AreBelow l.known (end_of l.listing);
  compiled : MayCompile l.known (listed (take l.part-index l.part-items)) l.fn.listing l.listing l.joined;
}

abbrev pub decreases-compile : goal.decreases-compile
decreases-compile l = size_of (expr_seen l.expr.now)
