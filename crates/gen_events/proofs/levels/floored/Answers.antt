use Rattle.gen_events.proofs.Saturating.{saturated}
use Rattle.gen_events.proofs.levels.floored.Goals as goal

pub returns-in_ok-id-in-Some-clause-node : goal.returns-in_ok-id-in-Some-clause-node
returns-in_ok-id-in-Some-clause-node c =
    let level = rw c.in-Some.is at c.requires.low in
    rw c.in-Some.is (saturated _ _ _ _ _ _ _ _ _ _ _ _ c.in_ok-under-in-Some.ensures.older c.in_ok-acts-in-Some.ensures.older c.in_ok-id-in-Some.ensures.older level
    c.in_ok-under-in-Some.ensures.node c.in_ok-acts-in-Some.ensures.node c.in_ok-id-in-Some.ensures.node)
