use Rattle.std.proofs.Common.{◌≡◌, arith}
use Rattle.std.proofs.lemmas.Result.{IfOk-weaker}
use Rattle.rtl_net.specs.Net.{width_in}
use Rattle.rtl_net.proofs.Nets.{Stands-has}
use Rattle.gen_scene.proofs.Counts.{pin_low, pin_stands, pin_wide}
use Rattle.gen_scene.proofs.scene.Scene.amount.Goals as goal

pub pin-requires : goal.pin-requires
pin-requires c = let h = rw c.in-Pin.is at c.requires.can.1 in pin_low c.args.net.now c.args.self.now c.requires.can.0 c.in-Pin.field-0 c.args.place c.requires.base h.0 h.1

pub widened-requires-clause-stands : goal.widened-requires-clause-stands
widened-requires-clause-stands c =
    let h = rw c.in-Pin.is at c.requires.can.1 in
    Stands-has c.args.net.now c.pin.result c.in-Pin.field-0 (pin_stands c.args.net.now c.args.self.now c.requires.can.0 c.in-Pin.field-0 c.args.place c.requires.base h.0 h.1 c.pin.result c.pin.ensures)

pub widened-requires-clause-room : goal.widened-requires-clause-room
widened-requires-clause-room c =
    let h = rw c.in-Pin.is at c.requires.can.1 in
    let w : width_in c.args.net.now c.pin.result ≡ c.in-Pin.field-0 = (pin_stands c.args.net.now c.args.self.now c.requires.can.0 c.in-Pin.field-0 c.args.place c.requires.base h.0 h.1 c.pin.result c.pin.ensures).width in
    omega (arith, w, h.2)

pub returns-in-Item-clause-worth : goal.returns-in-Item-clause-worth
returns-in-Item-clause-worth c = rw c.in-Item.is (IfOk-weaker c.wide_item.result _ _ (λ id h name can. h) c.wide_item.ensures.worth)

pub returns-in-Pin-clause-worth : goal.returns-in-Pin-clause-worth
returns-in-Pin-clause-worth c = rw c.in-Pin.is (IfOk-weaker c.widened.result _ _ (λ id node name can. pin_wide c.args.net.now c.args.self.now name c.in-Pin.field-0 c.args.place c.requires.base can.0 can.1 c.widened.new.net c.args.width c.pin.result id c.pin.ensures c.widened.ensures.older node) c.widened.ensures.node)
