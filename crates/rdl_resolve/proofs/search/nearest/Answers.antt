use Rattle.std.proofs.Common.{◌∙◌, ◌+◌, ◌<◌, length, drop, refl, sym, ap, subst, arith}
use Rattle.rdl_sizes.proofs.Facts.{count-is}
use Rattle.rdl_resolve.specs.Outward.{IsChain, outer_at}
use Rattle.rdl_resolve.proofs.Chaining.{body-within, found-here, passed-all, passed-here}
use Rattle.rdl_resolve.proofs.search.nearest.Goals as goal

pub loop-init : goal.loop-init
loop-init c = λ e ps clean are root many chain. (chain, refl)

pub returns-then-has : goal.returns-then-has
returns-then-has c = λ e ps clean are root many chain.
    let i = c.loop.invariant e ps clean are root many chain in
    let low : c.loop.counter < length ps = omega (arith, c.loop-test.true, many) in
    let count = count-is e clean in
    found-here e count c.args.outers.now c.args.name.now ps c.loop.counter c.loop.body low i.0 i.1
    (sym (c.has.ensures e are (body-within e count c.args.outers.now c.args.name.now ps c.loop.counter c.loop.body low i.0 i.1)) ∙ c.if-has.true)

pub loop-preserved : goal.loop-preserved
loop-preserved c = λ e ps clean are root many chain.
    let i = c.loop.invariant e ps clean are root many chain in
    let low : c.loop.counter < length ps = omega (arith, c.loop-test.true, many) in
    let count = count-is e clean in
    let p =
    passed-here e count c.args.outers.now c.args.name.now ps c.loop.counter c.loop.body low i.0 i.1
    (sym (c.has.ensures e are (body-within e count c.args.outers.now c.args.name.now ps c.loop.counter c.loop.body low i.0 i.1)) ∙ c.if-has.false) in
    (subst (IsChain e c.args.outers.now (drop (c.loop.counter + 1) ps)) (sym (c.outer_of-body.ensures ∙ ap (λ r. outer_at r c.args.outers.now c.loop.body) root)) p.0, p.1)

pub returns : goal.returns
returns c = λ e ps clean are root many chain.
    let i = c.loop.invariant e ps clean are root many chain in
    passed-all e c.args.name.now ps c.loop.counter (omega (arith, c.loop-test.false, many)) i.1
