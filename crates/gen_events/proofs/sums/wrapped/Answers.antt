use Rattle.rtl_net.specs.Net.{Settles}
use Rattle.rtl_net.proofs.Nets.{IsNode-is, fits_at}
use Rattle.plain_lemmas.proofs.Numbers.{wrap_down}
use Rattle.gen_events.proofs.sums.wrapped.Goals as goal

pub returns-clause-node : goal.returns-clause-node
returns-clause-node c =
    IsNode-is _ _ _ _ _ _ c.in_ok-id.ensures.node c.in_ok-raised.ensures.node.stands.width (λ x s.
    let s1 : Settles c.sum.new.net x = c.in_ok-id.ensures.older.settles x s in
    let s0 : Settles c.args.net.now x = c.in_ok-raised.ensures.older.settles x s1 in
    rw (c.in_ok-raised.ensures.node.stands.width, c.in_ok-raised.ensures.node.value x s1) (wrap_down _ _ _ (fits_at _ x _ _ s0 c.requires.down)))
