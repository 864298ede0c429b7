use Rattle.std.proofs.Common.{◌≡◌, ◌<◌, ◌∙◌, length, arith, refl}
use Rattle.rtl_net.specs.Net.{Settles, width_in}
use Rattle.rtl_net.proofs.Nets.{IsNode-is}
use Rattle.gen_fields.proofs.Bits.{bit_is_one}
use Rattle.gen_fields.proofs.access.software.Goals as goal

pub returns-clause-node : goal.returns-clause-node
returns-clause-node c =
    let low : c.args.v.0 < length c.taken.new.net.nodes = omega (arith, c.in_ok-other.ensures.older.count, c.requires.v.0) in
    let same : width_in c.acting.new.net c.args.v ≡ width_in c.args.net.now c.args.v = c.in_ok-acts.ensures.older.width c.args.v low ∙ c.in_ok-other.ensures.older.width c.args.v c.requires.v.0 in
    IsNode-is _ _ _ _ _ _ c.in_ok-id.ensures.node same (λ x s.
    let s2 : Settles c.acting.new.net x = c.in_ok-id.ensures.older.settles x s in
    let s1 : Settles c.taken.new.net x = c.in_ok-acts.ensures.older.settles x s2 in
    rw (same, c.in_ok-acts.ensures.node.value x s2, c.in_ok-other.ensures.node.value x s1, bit_is_one) refl)
