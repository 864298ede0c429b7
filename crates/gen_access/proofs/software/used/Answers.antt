use Rattle.gen_access.proofs.Puts.{used_put}
use Rattle.gen_access.proofs.software.used.Goals as goal

pub returns-clause-worth : goal.returns-clause-worth
returns-clause-worth c =
    let b = c.args.scene.now.base.now.block.now in
    let a = c.args.scene.now.base.now.inlet in
    let s = c.args.slot in
    used_put b a c.args.net.now c.acting.new.net c.either.new.net s c.args.view.now c.args.hit c.args.v c.args.hit c.args.hit c.in_ok-id.id c.view_gate.result c.done.result
    c.requires.views.base.sound c.requires.view c.requires.slot.some_bit c.in_ok-acts.ensures.older c.in_ok-id.ensures.older
    c.in_ok-acts.acts c.if-not-view.false c.in_ok-acts.ensures.node
    (c.view_gate.ensures c.args.net.now (c.requires.views.each s.view c.args.view.now c.requires.view)) (λ f h. c.done.ensures c.args.net.now f c.requires.views.base h) c.requires.v c.in_ok-id.ensures.node
