use Rattle.rdl_facts.proofs.Placed.{places_more}
use Rattle.rdl_facts.proofs.places.Places.of.Goals as goal

pub loop-number-preserved : goal.loop-number-preserved
loop-number-preserved c = places_more c.args.enums.now c.loop-number.number _ c.loop-number.places c.put.new.self c.loop-number-test.true c.in_ok-put.ensures c.loop-number.invariant
