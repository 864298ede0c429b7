use Rattle.gen_events.proofs.Lists.{halves_count}
use Rattle.gen_events.proofs.lines.+any.Goals as goal

pub returns-clause-node : goal.returns-clause-node
returns-clause-node t c = halves_count _ _ _ _ _ _ _ _ _ _ _ c.in_ok-a.ensures.older c.in_ok-b.ensures.older c.in_ok-id.ensures.older c.requires
    c.in_ok-a.ensures.node c.in_ok-b.ensures.node c.in_ok-id.ensures.node c.split_at.ensures.front c.split_at.ensures.back
