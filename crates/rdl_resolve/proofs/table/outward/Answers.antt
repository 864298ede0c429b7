use Rattle.std.proofs.Common.{◌∙◌, ◌+◌, drop, sym, ap, subst}
use Rattle.rdl_resolve.specs.Outward.{outer_at}
use Rattle.rdl_resolve.specs.Outers.{IsChainBelow}
use Rattle.rdl_resolve.proofs.Chained.{one-outward}
use Rattle.rdl_resolve.proofs.table.outward.Goals as goal

pub loop-preserved : goal.loop-preserved
loop-preserved c = λ e n ps root chain.
    let outers = c.args.outers.now in
    let next = one-outward e outers n ps c.loop.counter c.loop.body (c.loop.invariant e n ps root chain) in
    subst (IsChainBelow e outers n (drop (c.loop.counter + 1) ps)) (sym (c.outer_of-body.ensures ∙ ap (λ r. outer_at r outers c.loop.body) root)) next
