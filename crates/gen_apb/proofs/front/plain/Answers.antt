use Rattle.std.proofs.Common.{None, refl}
use Rattle.gen_apb.proofs.Fronting.{plain_front}
use Rattle.gen_apb.proofs.front.plain.Goals as goal

pub returns-clause-front : goal.returns-clause-front
returns-clause-front c = plain_front c.args.block.now c.requested.new.net c.number.new.net c.in_ok-access.access
    (record { inlet = c.in_ok-access.access.inlet; ready = c.in_ok-ready.ready; error = c.in_ok-access.access.fails; closes = None })
    c.requires.wait c.number.ensures.older c.in_ok-access.ensures.carried c.in_ok-ready.ensures.node refl refl refl
