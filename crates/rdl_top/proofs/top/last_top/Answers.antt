use Rattle.std.proofs.Common.{None, ◌+◌, take, reverse, sym, subst}
use Rattle.rdl_values.specs.Bodies.{standing}
use Rattle.rdl_values.specs.Top.{top_at}
use Rattle.rdl_values.specs.Values.{nearest}
use Rattle.rdl_top.specs.Topped.{Means}
use Rattle.rdl_top.proofs.Topping.{last_more}
use Rattle.rdl_top.proofs.top.last_top.Goals as goal

pub loop-position-preserved : goal.loop-position-preserved
loop-position-preserved c = λ s e.
    let items = c.args.items.now in
    let k = c.loop-position.position in
    subst (λ r. Means s items r (nearest (top_at None s) (reverse (standing (take (k + 1) items))))) (sym c.later-top.ensures)
    (last_more s items k c.index-items-position.result c.loop-position-test.true c.index-items-position.is c.loop-position.top c.top_in.result (c.loop-position.invariant s e) (c.top_in.ensures s items))
