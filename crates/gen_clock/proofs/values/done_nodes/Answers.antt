use Rattle.std.proofs.Common.{◌≡◌, if◌then◌else◌, length, ap, ◌∙◌, arith}
use Rattle.rtl_net.specs.Net.{seen_or_zero}
use Rattle.rtl_net.proofs.Places.{item_at}
use Rattle.rb_model.specs.Kept.{Done}
use Rattle.gen_scene.proofs.Worths.{IsBase-grows, worth_read}
use Rattle.gen_access.specs.Touches.{one_bit}
use Rattle.gen_clock.proofs.Tabling.{nodes_more, nodes_stand, nodes_worth}
use Rattle.gen_clock.proofs.values.done_nodes.Goals as goal

pub present-requires-clause-stands : goal.present-requires-clause-stands
present-requires-clause-stands c =
    let b = c.args.base.now.block.now in
    let l : length c.deref-fields.result.now ≡ length b.fields = ap length (c.deref-fields.ensures.value ∙ ap (λ b. b.fields) c.block.view_is) in
    let f = item_at b.fields c.loop-number.number (omega (arith, c.loop-number-test.true)) in
    (c.done-done.ensures c.loop-number.net f.0 (IsBase-grows c.args.net.now c.loop-number.net c.loop-number.invariant.older c.args.base.now c.requires) f.1).may

pub loop-number-preserved : goal.loop-number-preserved
loop-number-preserved c =
    let b = c.args.base.now.block.now in
    let a = c.args.base.now.inlet in
    let n = c.loop-number.net in
    nodes_more b a c.args.net.now n c.present.new.net c.loop-number.table.items c.push.new.self.items one_bit (λ k f n v. if f.once then n.kept (Done k) else 0) c.loop-number.number c.in_ok-present.field-0
    c.loop-number.invariant c.in_ok-present.ensures.older c.in_ok-present.ensures.name
    (λ f h. worth_read b a n c.present.new.net c.in_ok-present.field-0 1 (λ x. seen_or_zero x c.done-done.result) (λ m v. if f.once then m.kept (Done c.loop-number.number) else 0) c.in_ok-present.ensures.older c.in_ok-present.ensures.node
    (c.done-done.ensures n f (IsBase-grows c.args.net.now n c.loop-number.invariant.older c.args.base.now c.requires) h).read)
    c.in_ok-push.ensures.items

pub returns-clause-table : goal.returns-clause-table
returns-clause-table c =
    let b = c.args.base.now.block.now in
    let l : length c.deref-fields.result.now ≡ length b.fields = ap length (c.deref-fields.ensures.value ∙ ap (λ b. b.fields) c.block.view_is) in
    nodes_stand b c.args.base.now.inlet c.args.net.now c.loop-number.net c.loop-number.table.items one_bit _ c.loop-number.number (omega (arith, c.loop-number-test.false, c.loop-number.auto.number-end)) c.loop-number.invariant

pub returns-clause-worth : goal.returns-clause-worth
returns-clause-worth c =
    let b = c.args.base.now.block.now in
    let l : length c.deref-fields.result.now ≡ length b.fields = ap length (c.deref-fields.ensures.value ∙ ap (λ b. b.fields) c.block.view_is) in
    nodes_worth b c.args.base.now.inlet c.args.net.now c.loop-number.net c.loop-number.table.items one_bit _ c.loop-number.number (omega (arith, c.loop-number-test.false, c.loop-number.auto.number-end)) c.loop-number.invariant
