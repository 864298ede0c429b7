use Rattle.rdl_scopes.proofs.Twice.{known_step, noted_step}
use Rattle.rdl_scopes.proofs.components.note_twice.Goals as goal

pub loop-at-preserved : goal.loop-at-preserved
loop-at-preserved c = record {
  known = known_step c.args.names.now c.loop-at.at _ c.loop-at.firsts c.put.new.self c.loop-at-test.true c.loop-at.invariant.known c.in_ok-again.ensures.put;
  noted = noted_step c.args.names.now c.loop-at.at _ c.loop-at.firsts c.in_ok-again.again _ _ _ _ _ c.loop-at-test.true c.loop-at.invariant.known c.in_ok-again.ensures.again c.loop-at.invariant.noted c.in_ok-clean.ensures;
}
