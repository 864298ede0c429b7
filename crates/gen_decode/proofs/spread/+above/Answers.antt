-- One bit more.
use Rattle.std.proofs.Common.{◌≡◌, ◌+◌, ◌/◌, ◌^◌, ◌<◌, length, refl, ap, ◌∙◌, subst, arith}
use Rattle.gen_decode.specs.Hits.{AreCrossed, AreHitsAbove}
use Rattle.gen_decode.proofs.Spreading.{smaller, deeper, half_count, pairs, hits_halved}
use Rattle.gen_decode.proofs.spread.+above.Goals as goal

pub above-requires : goal.above-requires
above-requires t c =
    let s = smaller c.args.last c.args.level c.if-last-level-eq0.false in
    let less : c.args.last / 2 ^ (c.args.level + 1) < t = omega (arith, c.decreases) in
    let long : length c.deref.result.now ≡ c.args.last / 2 ^ (c.args.level + 1) + 1
    = ap length c.deref.ensures.value ∙ (c.in_ok-halves.ensures.long ∙ half_count c.args.last c.args.level (length c.args.needed.now) c.requires.needed) in
    (less, (c.requires.on, (c.requires.number, (c.requires.last, (deeper c.args.last c.args.level c.requires.last c.requires.level c.if-last-level-eq0.false, long)))))

pub crossed-requires-clause-high : goal.crossed-requires-clause-high
crossed-requires-clause-high t c =
    let p = pairs c.args.last c.args.level in
    let l : length c.deref-2.result.now ≡ c.args.last / 2 ^ (c.args.level + 1) + 1 = ap length c.deref-2.ensures.value ∙ c.in_ok-rows.ensures.long in
    let n : length c.args.needed.now ≡ c.args.last / 2 ^ c.args.level + 1 = c.requires.needed in
    let two : 2 ^ 1 ≡ 2 = refl in
    omega arith

pub returns-clause-each : goal.returns-clause-each
returns-clause-each t c =
    let n3 = c.crossed.new.net in
    let needed = c.args.needed.now in
    let rows : AreCrossed n3 c.in_ok-rows.rows.items c.deref-3.result.now 1 needed c.in_ok-ids.ids.items
    = subst (λ xs. AreCrossed n3 xs c.deref-3.result.now 1 needed c.in_ok-ids.ids.items) c.deref-2.ensures.value c.in_ok-ids.ensures.each in
    let both : AreCrossed n3 c.in_ok-rows.rows.items c.in_ok-pair.pair.items 1 needed c.in_ok-ids.ids.items
    = subst (λ xs. AreCrossed n3 c.in_ok-rows.rows.items xs 1 needed c.in_ok-ids.ids.items) c.deref-3.ensures.value rows in
    let aboves : AreHitsAbove c.above.new.net c.args.on c.args.number c.args.last (c.args.level + 1) c.in_ok-halves.halves.items c.in_ok-rows.rows.items
    = subst (λ hs. AreHitsAbove c.above.new.net c.args.on c.args.number c.args.last (c.args.level + 1) hs c.in_ok-rows.rows.items) c.deref.ensures.value c.in_ok-rows.ensures.each in
    hits_halved c.above.new.net c.sides.new.net n3 c.args.on c.args.number c.args.last c.args.level needed c.in_ok-halves.halves.items c.in_ok-rows.rows.items c.in_ok-pair.pair.items c.in_ok-ids.ids.items
    c.in_ok-pair.ensures.older c.in_ok-ids.ensures.older c.in_ok-halves.ensures.each c.requires.needed
    c.in_ok-rows.ensures.long aboves c.in_ok-pair.ensures.long c.in_ok-pair.ensures.each c.in_ok-ids.ensures.long both
