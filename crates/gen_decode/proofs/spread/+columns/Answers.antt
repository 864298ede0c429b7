-- One bit more.
use Rattle.std.proofs.Common.{◌≡◌, ℕ, ◌+◌, ◌-◌, ◌*◌, ◌%◌, ◌^◌, ◌<◌, ◌≤◌, true, length, replicate, sym, ap, ◌∙◌, subst, arith}
use Rattle.std.proofs.lemmas.List.{length-replicate}
use Rattle.std.proofs.lemmas.Nat.{one_shl}
use Rattle.gen_decode.specs.Hits.{AreColumns, AreCrossed}
use Rattle.gen_decode.proofs.Spreading.{all_needed, columns_doubled, one_column}
use Rattle.gen_decode.proofs.spread.+columns.Goals as goal

up : (bits : ℕ) → 0 < bits → bits - 1 + 1 ≡ bits
up bits some = omega arith

pub returns-then-level-eq0-clause-each : goal.returns-then-level-eq0-clause-each
returns-then-level-eq0-clause-each t c =
    let net = c.sides.new.net in
    subst (λ n. AreColumns net c.args.number n c.in_ok-top.top.items) (up c.args.bits c.requires.some)
    (one_column net c.args.number (c.args.bits - 1) c.in_ok-top.top.items c.if-level-eq0.true c.in_ok-top.ensures.each)

all_of : (bits : ℕ) (level : ℕ) → level + 1 ≡ bits → bits ≤ 16 → (1 * 2 ^ bits) % 2 ^ 64 ≡ 2 ^ (level + 1)
all_of bits level e few = one_shl bits 64 (omega arith) ∙ ap (λ n. 2 ^ n) (sym e)

pub returns-clause-long : goal.returns-clause-long
returns-clause-long t c =
    let shl : (1 * 2 ^ c.args.bits) % 2 ^ 64 ≡ 2 ^ c.args.bits = one_shl c.args.bits 64 (omega arith) in
    c.in_ok-ids.ensures.long ∙ (ap length c.deref-3.ensures.value ∙ (ap length (c.in_ok-all.ensures.items_if_clones_equal (λ y e. e)) ∙ (length-replicate _ true ∙ shl)))

pub returns-clause-each : goal.returns-clause-each
returns-clause-each t c =
    let n3 = c.crossed.new.net in
    let level = c.args.bits - 1 in
    let needed = c.deref-3.result.now in
    let rows : AreCrossed n3 c.in_ok-top.top.items c.deref-2.result.now level needed c.in_ok-ids.ids.items
    = subst (λ xs. AreCrossed n3 xs c.deref-2.result.now level needed c.in_ok-ids.ids.items) c.deref.ensures.value c.in_ok-ids.ensures.each in
    let both : AreCrossed n3 c.in_ok-top.top.items c.in_ok-low.low.items level needed c.in_ok-ids.ids.items
    = subst (λ xs. AreCrossed n3 c.in_ok-top.top.items xs level needed c.in_ok-ids.ids.items) c.deref-2.ensures.value rows in
    let e = up c.args.bits c.requires.some in
    let count : (1 * 2 ^ c.args.bits) % 2 ^ 64 ≡ 2 ^ (level + 1) = all_of c.args.bits level e c.requires.bits in
    let items : needed ≡ replicate ((1 * 2 ^ c.args.bits) % 2 ^ 64) true = c.deref-3.ensures.value ∙ c.in_ok-all.ensures.items_if_clones_equal (λ y e. e) in
    let long : length c.in_ok-ids.ids.items ≡ 2 ^ (level + 1) = c.in_ok-ids.ensures.long ∙ (ap length items ∙ (length-replicate _ true ∙ count)) in
    subst (λ n. AreColumns n3 c.args.number n c.in_ok-ids.ids.items) e
    (columns_doubled c.sides.new.net c.columns.new.net n3 c.args.number level needed c.in_ok-top.top.items c.in_ok-low.low.items c.in_ok-ids.ids.items c.in_ok-low.ensures.older c.in_ok-ids.ensures.older
    c.in_ok-top.ensures.long c.in_ok-top.ensures.each c.in_ok-low.ensures.long c.in_ok-low.ensures.each long (all_needed needed _ (2 ^ (level + 1)) items count) both)
