use Rattle.rtl_net.proofs.Nets.{Grows-trans, IsNode-grows}
use Rattle.gen_scene.proofs.Worths.{IsBase-grows}
use Rattle.gen_access.proofs.Puts.{written_put}
use Rattle.gen_access.proofs.Turns.{HasViews-grows, field_there}
use Rattle.gen_access.proofs.software.written.Goals as goal

pub software-requires-clause-done : goal.software-requires-clause-done
software-requires-clause-done c =
    let b = c.args.scene.now.base.now.block.now in
    let grows = Grows-trans c.args.net.now c.slice.new.net c.zero.new.net c.in_ok-bits.ensures.older c.in_ok-read.ensures.older in
    let f = field_there b c.args.slot c.args.view.now c.requires.slot c.requires.view in
    (c.done.ensures c.zero.new.net f.0 (IsBase-grows c.args.net.now c.zero.new.net grows c.args.scene.now.base.now c.requires.views.base) f.1).may

pub returns-clause-worth : goal.returns-clause-worth
returns-clause-worth c =
    let b = c.args.scene.now.base.now.block.now in
    let a = c.args.scene.now.base.now.inlet in
    let s = c.args.slot in
    let grows = Grows-trans c.args.net.now c.slice.new.net c.zero.new.net c.in_ok-bits.ensures.older c.in_ok-read.ensures.older in
    let views = HasViews-grows c.args.net.now c.zero.new.net c.args.scene.now grows c.requires.views in
    written_put b a c.args.net.now c.zero.new.net c.software.new.net s c.args.view.now c.args.hit c.args.v c.in_ok-bits.bits c.in_ok-read.read c.in_ok-id.id c.view_gate.result c.done.result
    c.requires.views.base.sound c.requires.view c.requires.slot.some_bit grows c.in_ok-id.ensures.older
    _ c.if-not-view.false (IsNode-grows c.slice.new.net c.zero.new.net c.in_ok-bits.bits _ _ c.in_ok-read.ensures.older c.in_ok-bits.ensures.node) c.in_ok-read.ensures.node
    (c.view_gate.ensures c.zero.new.net (views.each s.view c.args.view.now c.requires.view)) (λ f h. c.done.ensures c.zero.new.net f views.base h) c.requires.v c.in_ok-id.ensures.node
