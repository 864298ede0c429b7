use Rattle.std.proofs.Common.{sym, subst, ◌∙◌}
use Rattle.std.proofs.lemmas.Option.{same_Some}
use Rattle.std.proofs.lemmas.Result.{IfOk-weaker}
use Rattle.rtl_net.specs.Value.{bit_of}
use Rattle.rb_model.specs.Machine.{is_asserted}
use Rattle.gen_scene.specs.Worth.{IsWorth}
use Rattle.gen_scene.proofs.Counts.{asserted_high, asserted_low, reset_stands}
use Rattle.gen_scene.proofs.ResetPins.{pin_within}
use Rattle.gen_scene.proofs.base.Base.asserted.Goals as goal

pub reset_id-pin-requires : goal.reset_id-pin-requires
reset_id-pin-requires c =
    let s = c.args.self.now in
    pin_within s.block.now c.requires.base.sound s.plan.now c.requires.base.planned c.args.net.now s.pins.now c.requires.base.pins c.args.number c.field_at.result.now c.field_at.ensures

pub opposite-requires : goal.opposite-requires
opposite-requires c = reset_stands c.args.net.now c.args.self.now c.requires.base c.args.number c.field_at.result.now c.field_at.ensures c.reset_id-pin.result c.reset_id-pin.ensures

pub returns-then-by-clause-worth : goal.returns-then-by-clause-worth
returns-then-by-clause-worth c = IfOk-weaker c.opposite.result _ _ (λ id node f here.
    let s = c.args.self.now in
    let g = c.field_at.result.now in
    subst (λ f. IsWorth s.block.now s.inlet c.opposite.new.net id 1 (λ n v. bit_of (is_asserted s.block.now n.pins f.reset_by))) (same_Some g f (sym c.field_at.ensures ∙ here))
    (asserted_low c.args.net.now s c.requires.base c.args.number g c.field_at.ensures c.reset_id-pin.result c.reset_id-pin.ensures c.if-by.true c.opposite.new.net id c.opposite.ensures.older node)) c.opposite.ensures.node

pub returns-else-by-clause-worth : goal.returns-else-by-clause-worth
returns-else-by-clause-worth c f here =
    let s = c.args.self.now in
    let g = c.field_at.result.now in
    subst (λ f. IsWorth s.block.now s.inlet c.args.net.now c.reset_id-pin.result 1 (λ n v. bit_of (is_asserted s.block.now n.pins f.reset_by))) (same_Some g f (sym c.field_at.ensures ∙ here))
    (asserted_high c.args.net.now s c.requires.base c.args.number g c.field_at.ensures c.reset_id-pin.result c.reset_id-pin.ensures c.if-by.false)
