use Rattle.std.proofs.Common.{◌+◌, ◌≡◌, length, ap, ◌∙◌, arith}
use Rattle.rtl_net.proofs.Places.{read_at}
use Rattle.gen_access.proofs.Turns.{steps_more, steps_none}
use Rattle.gen_clock.proofs.Sweeps.{HasFields-grows, swept, swept_all, swept_more, swept_none, swept_one}
use Rattle.gen_clock.proofs.fields.hardware_nodes.Goals as goal

pub loop-number-init : goal.loop-number-init
loop-number-init c =
    steps_none c.args.scene.now.base.now.block.now c.args.scene.now.base.now.inlet c.args.net.now c.args.table.now (λ f. f.width) (swept c.args.last 0) c.requires.table (swept_none c.args.last)

pub put_field-requires-clause-fields : goal.put_field-requires-clause-fields
put_field-requires-clause-fields c = HasFields-grows c.args.net.now c.loop-number.net c.args.scene.now c.loop-number.invariant.older c.requires.fields

pub put_field-requires-clause-field : goal.put_field-requires-clause-field
put_field-requires-clause-field c =
    read_at c.deref-fields.result.now c.args.scene.now.base.now.block.now.fields c.loop-number.number c.index-fields-number.result (c.deref-fields.ensures.value ∙ ap (λ b. b.fields) c.block.view_is) c.loop-number-test.true c.index-fields-number.is

pub loop-number-preserved : goal.loop-number-preserved
loop-number-preserved c =
    steps_more c.args.scene.now.base.now.block.now c.args.scene.now.base.now.inlet c.args.net.now c.loop-number.net c.put_field.new.net c.args.table.now c.loop-number.table c.put_field.new.table (λ f. f.width)
    (swept c.args.last c.loop-number.number) (swept_one c.args.last c.loop-number.number) (swept c.args.last (c.loop-number.number + 1)) (λ n v there i k f x. swept_more c.args.last c.loop-number.number n v k f x)
    c.loop-number.invariant c.in_ok-put_field.ensures.older c.in_ok-put_field.ensures.name c.in_ok-put_field.ensures.table c.in_ok-put_field.ensures.changes

pub returns-clause-changes : goal.returns-clause-changes
returns-clause-changes c =
    let b = c.args.scene.now.base.now.block.now in
    let l : length c.deref-fields.result.now ≡ length b.fields = ap length (c.deref-fields.ensures.value ∙ ap (λ b. b.fields) c.block.view_is) in
    swept_all b c.args.scene.now.base.now.inlet c.args.net.now c.loop-number.net c.args.table.now c.loop-number.table (λ f. f.width) c.args.last c.loop-number.number (omega (arith, c.loop-number-test.false)) c.loop-number.invariant.changes
