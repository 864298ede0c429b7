use Rattle.std.proofs.lemmas.Result.{IfOk-weaker}
use Rattle.gen_scene.proofs.Counts.{pulse_stands, step_worth}
use Rattle.gen_scene.proofs.scene.Scene.step.Goals as goal

pub pulsed-requires-clause-pulse : goal.pulsed-requires-clause-pulse
pulsed-requires-clause-pulse c =
    let h = rw c.in-Some.is at c.requires.can.2 in
    pulse_stands c.args.net.now c.amount.new.net c.args.self.now c.in-Some.part c.requires.can.0 c.requires.can.1 c.args.width c.args.places c.fed-pulse.result h c.in_ok-amount-in-Some.ensures.older c.fed-pulse.ensures

pub returns-in_ok-amount-in-Some-clause-worth : goal.returns-in_ok-amount-in-Some-clause-worth
returns-in_ok-amount-in-Some-clause-worth c = rw c.in-Some.is (IfOk-weaker c.pulsed.result _ _ (λ id node pulse value can.
    step_worth c.args.net.now c.amount.new.net c.pulsed.new.net c.args.self.now c.in-Some.part pulse value c.args.width c.args.places c.fed-pulse.result c.in_ok-amount-in-Some.amount id can c.in_ok-amount-in-Some.ensures.older
    (c.in_ok-amount-in-Some.ensures.worth value can.1) c.fed-pulse.ensures c.pulsed.ensures.older node) c.pulsed.ensures.node)
