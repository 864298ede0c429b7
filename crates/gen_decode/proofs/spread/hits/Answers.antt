-- All lines, by rows and columns.
use Rattle.std.proofs.Common.{◌≡◌, ◌+◌, ◌-◌, ◌*◌, ◌/◌, ◌^◌, ◌<◌, ◌≤◌, length, refl, arith, ap, sym, ◌∙◌, subst}
use Rattle.std.proofs.lemmas.Bool.Decides.{nat_tests}
use Rattle.std.proofs.lemmas.Nat.{pow_pos}
use Rattle.rtl_net.proofs.Nets.{Grows-trans}
use Rattle.gen_decode.specs.Hits.{AreCrossed, AreHitsAbove}
use Rattle.gen_decode.proofs.Spreading.{enough_rows, hits_crossed, hits_whole, some_count, whole_count}
use Rattle.gen_decode.proofs.spread.hits.Goals as goal

pub above-requires-clause-needed : goal.above-requires-clause-needed
above-requires-clause-needed c = ap length c.deref.ensures.value ∙ c.in_ok-wanted.ensures.long

pub returns-then-bits-eq0-clause-long : goal.returns-then-bits-eq0-clause-long
returns-then-bits-eq0-clause-long c =
    let some : 0 < length c.args.needed.now = grind (arith, nat_tests, c.is_empty.ensures, c.if-is_empty.false) in
    whole_count (length c.args.needed.now) c.half_of_bits-bits.result (length c.in_ok-rows.rows.items) (some_count (length c.args.needed.now) some) c.if-bits-eq0.true c.in_ok-rows.ensures.long

pub returns-then-bits-eq0-clause-each : goal.returns-then-bits-eq0-clause-each
returns-then-bits-eq0-clause-each c =
    let some : 0 < length c.args.needed.now = grind (arith, nat_tests, c.is_empty.ensures, c.if-is_empty.false) in
    let count = length c.args.needed.now in
    let bits = c.half_of_bits-bits.result in
    let aboves : AreHitsAbove c.above.new.net c.args.on c.args.number (count - 1) bits c.in_ok-wanted.wanted.items c.in_ok-rows.rows.items
    = subst (λ ws. AreHitsAbove c.above.new.net c.args.on c.args.number (count - 1) bits ws c.in_ok-rows.rows.items) c.deref.ensures.value c.in_ok-rows.ensures.each in
    hits_whole c.above.new.net c.args.on c.args.number count bits c.args.needed.now c.in_ok-wanted.wanted.items c.in_ok-rows.rows.items (some_count (length c.args.needed.now) some) c.if-bits-eq0.true refl
    c.in_ok-wanted.ensures.each c.in_ok-rows.ensures.long aboves

pub crossed-requires-clause-high : goal.crossed-requires-clause-high
crossed-requires-clause-high c =
    let count = length c.args.needed.now in
    let l : length c.deref-2.result.now ≡ (count - 1) / 2 ^ c.half_of_bits-bits.result + 1 = ap length c.deref-2.ensures.value ∙ c.in_ok-rows.ensures.long in
    subst (λ n. count ≤ n * 2 ^ c.half_of_bits-bits.result) (sym l) (enough_rows count (2 ^ c.half_of_bits-bits.result) (pow_pos c.half_of_bits-bits.result))

pub returns-clause-each : goal.returns-clause-each
returns-clause-each c =
    let some : 0 < length c.args.needed.now = grind (arith, nat_tests, c.is_empty.ensures, c.if-is_empty.false) in
    let n3 = c.crossed.new.net in
    let count = length c.args.needed.now in
    let needed = c.args.needed.now in
    let bits = c.half_of_bits-bits.result in
    let rows : AreCrossed n3 c.in_ok-rows.rows.items c.deref-3.result.now bits needed c.in_ok-ids.ids.items
    = subst (λ xs. AreCrossed n3 xs c.deref-3.result.now bits needed c.in_ok-ids.ids.items) c.deref-2.ensures.value c.in_ok-ids.ensures.each in
    let both : AreCrossed n3 c.in_ok-rows.rows.items c.in_ok-low.low.items bits needed c.in_ok-ids.ids.items
    = subst (λ xs. AreCrossed n3 c.in_ok-rows.rows.items xs bits needed c.in_ok-ids.ids.items) c.deref-3.ensures.value rows in
    let aboves : AreHitsAbove c.above.new.net c.args.on c.args.number (count - 1) bits c.in_ok-wanted.wanted.items c.in_ok-rows.rows.items
    = subst (λ ws. AreHitsAbove c.above.new.net c.args.on c.args.number (count - 1) bits ws c.in_ok-rows.rows.items) c.deref.ensures.value c.in_ok-rows.ensures.each in
    hits_crossed c.above.new.net c.columns.new.net n3 c.args.on c.args.number count bits needed c.in_ok-wanted.wanted.items c.in_ok-rows.rows.items c.in_ok-low.low.items c.in_ok-ids.ids.items
    c.in_ok-low.ensures.older c.in_ok-ids.ensures.older (some_count count some) refl c.in_ok-wanted.ensures.each
    c.in_ok-rows.ensures.long aboves c.in_ok-low.ensures.long c.in_ok-low.ensures.each c.in_ok-ids.ensures.long both

pub returns-clause-older : goal.returns-clause-older
returns-clause-older c =
    Grows-trans c.args.net.now c.above.new.net c.crossed.new.net c.in_ok-rows.ensures.older
    (Grows-trans c.above.new.net c.columns.new.net c.crossed.new.net c.in_ok-low.ensures.older c.in_ok-ids.ensures.older)
