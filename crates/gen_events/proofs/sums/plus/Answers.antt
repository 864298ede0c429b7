use Rattle.std.proofs.Common.{◌≡◌, ◌∙◌, ◌+◌, ap}
use Rattle.rtl_net.specs.Net.{Settles, width_in}
use Rattle.rtl_net.proofs.Nets.{IsNode-is, Has-stands, fits_at}
use Rattle.gen_events.proofs.Wraps.{no_wrap}
use Rattle.gen_events.proofs.sums.plus.Goals as goal

pub returns-clause-node : goal.returns-clause-node
returns-clause-node c =
    let e : width_in c.widened-2.new.net c.in_ok-wide_a.wide_a ≡ width_in c.args.net.now c.args.a + 2
    = c.in_ok-wide_b.ensures.older.width _ c.in_ok-wide_a.ensures.node.stands.below ∙ c.in_ok-wide_a.ensures.node.stands.width ∙ ap (λ n. n + 2) (c.width-width.ensures.operand c.requires.a.1) in
    IsNode-is _ _ _ _ _ _ c.in_ok-id.ensures.node e (λ x s.
    let s2 : Settles c.widened-2.new.net x = c.in_ok-id.ensures.older.settles x s in
    let s1 : Settles c.widened.new.net x = c.in_ok-wide_b.ensures.older.settles x s2 in
    let s0 : Settles c.args.net.now x = c.in_ok-wide_a.ensures.older.settles x s1 in
    rw (e, c.in_ok-wide_a.ensures.node.value x s1, c.in_ok-wide_b.ensures.node.value x s2)
    (no_wrap _ _ _ (fits_at _ x _ _ s0 (Has-stands _ _ c.requires.a)) (fits_at _ x _ _ s0 c.requires.b)))
