use Rattle.rtl_net.proofs.Nets.{Extends-grows, Extends-trans, Grows-trans}
use Rattle.rtl_net.specs.Net.{Extends}
use Rattle.gen_apb.proofs.Fronting.{on_ok}
use Rattle.gen_apb.proofs.Accessing.{has_pins-extends}
use Rattle.gen_apb.proofs.front.bus_front.Goals as goal
use Rattle.plain_lemmas.proofs.Results.{on_ok-map as after_ok}

pub accessed-requires : goal.accessed-requires
accessed-requires c = has_pins-extends c.args.net.now c.address.new.net c.args.pins (Extends-grows c.args.net.now c.address.new.net c.address.ensures.older) c.requires.pins

pub waiting-requires-clause-pins : goal.waiting-requires-clause-pins
waiting-requires-clause-pins c = has_pins-extends c.args.net.now c.accessed.new.net c.args.pins (Extends-grows c.args.net.now c.accessed.new.net (Grows-trans c.args.net.now c.address.new.net c.accessed.new.net c.address.ensures.older c.accessed.ensures.older)) c.requires.pins

pub plain-requires-clause-pins : goal.plain-requires-clause-pins
plain-requires-clause-pins c = has_pins-extends c.args.net.now c.accessed.new.net c.args.pins (Extends-grows c.args.net.now c.accessed.new.net (Grows-trans c.args.net.now c.address.new.net c.accessed.new.net c.address.ensures.older c.accessed.ensures.older)) c.requires.pins

pub returns-then-block-eq1-clause-older : goal.returns-then-block-eq1-clause-older
returns-then-block-eq1-clause-older c =
    let before = Extends-grows c.args.net.now c.accessed.new.net (Grows-trans c.args.net.now c.address.new.net c.accessed.new.net c.address.ensures.older c.accessed.ensures.older) in
    after_ok c.waiting.result (Extends c.accessed.new.net c.waiting.new.net) (Extends c.args.net.now c.waiting.new.net) (λ h. Extends-trans c.args.net.now c.accessed.new.net c.waiting.new.net before h) c.waiting.ensures.older

pub returns-else-block-eq1-clause-older : goal.returns-else-block-eq1-clause-older
returns-else-block-eq1-clause-older c =
    let grown = Grows-trans c.args.net.now c.accessed.new.net c.plain.new.net (Grows-trans c.args.net.now c.address.new.net c.accessed.new.net c.address.ensures.older c.accessed.ensures.older) c.plain.ensures.older in
    on_ok c.plain.result (Extends c.args.net.now c.plain.new.net) (Extends-grows c.args.net.now c.plain.new.net grown)
