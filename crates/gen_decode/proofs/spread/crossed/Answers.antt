-- One node more.
use Rattle.std.proofs.Common.{◌≡◌, ◌*◌, ◌/◌, ◌%◌, ◌^◌, refl, ap, arith}
use Rattle.std.proofs.lemmas.Nat.{one_shl}
use Rattle.rtl_net.specs.Ids.{at}
use Rattle.gen_decode.proofs.Spreading.{crossed_more}
use Rattle.gen_decode.proofs.spread.crossed.Goals as goal

pub loop-k-preserved : goal.loop-k-preserved
loop-k-preserved c =
    let shl : (1 * 2 ^ c.args.level) % 2 ^ 64 ≡ 2 ^ c.args.level = one_shl c.args.level 64 (omega arith) in
    crossed_more c.args.net.now c.loop-k.net c.line.new.net c.args.rows.now c.args.columns.now c.args.level c.args.needed.now c.loop-k.ids.items c.push.new.self.items c.loop-k.k
    (at c.args.rows.now (c.loop-k.k / 2 ^ c.args.level)) (at c.args.columns.now (c.loop-k.k % ((1 * 2 ^ c.args.level) % 2 ^ 64))) c.in_ok-id.id
    c.loop-k.invariant c.in_ok-id.ensures.older c.in_ok-id.ensures.name refl (ap (λ n. at c.args.columns.now (c.loop-k.k % n)) shl) c.in_ok-id.ensures.stands c.in_ok-id.ensures.node c.in_ok-push.ensures.items
