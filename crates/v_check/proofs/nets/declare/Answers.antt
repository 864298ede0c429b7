use Rattle.std.proofs.Common.{take, arith}
use Rattle.v_design.specs.WellFormed.{names}
use Rattle.v_check.specs.Nets.{IsTwice, nets_seen, numbers}
use Rattle.v_check.proofs.Finding.{finds_next, finds_all, number-at}
use Rattle.v_check.proofs.Tables.{front-length, more_nets, name-within, twice-test}
use Rattle.v_check.proofs.nets.declare.Goals as goal

pub loop-index-preserved : goal.loop-index-preserved
loop-index-preserved c =
    let before = take c.loop-index.index c.args.nets.now in
    record {
      table = more_nets c.push.new.self c.args.nets.now c.loop-index.index _ c.loop-index-test.true (c.in_ok-again.ensures.nets before c.loop-index.invariant.table (front-length c.args.nets.now c.loop-index.index c.loop-index-test.true));
      found = finds_next (IsTwice (names (nets_seen c.args.nets.now))) (numbers c.args.places.now) c.loop-index.found c.note-found.result c.in_ok-again.again _ c.loop-index.index
          c.note-found.ensures (number-at c.args.places.now c.loop-index.index _ (omega arith))
          (twice-test c.args.nets.now c.loop-index.index _ c.in_ok-again.again c.loop-index-test.true (c.in_ok-again.ensures.again before c.loop-index.invariant.table)) c.loop-index.invariant.found;
    }

pub returns-clause-found : goal.returns-clause-found
returns-clause-found c =
    finds_all (IsTwice (names (nets_seen c.args.nets.now))) (numbers c.args.places.now) c.loop-index.found c.loop-index.index
    (λ i h. let l = name-within c.args.nets.now i h.0 h.1 in omega (arith, l)) c.loop-index.invariant.found
