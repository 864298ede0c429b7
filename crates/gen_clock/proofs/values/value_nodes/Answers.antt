use Rattle.std.proofs.Common.{◌≡◌, length, ap, ◌∙◌, arith}
use Rattle.gen_clock.proofs.Tabling.{values_more}
use Rattle.gen_clock.proofs.values.value_nodes.Goals as goal

pub node-requires : goal.node-requires
node-requires c =
    let l : length c.deref-fields.result.now ≡ length c.args.scene.now.base.now.block.now.fields = ap length (c.deref-fields.ensures.value ∙ ap (λ b. b.fields) c.block.view_is) in
    let e : c.in_ok-number.number ≡ c.loop-index.index = c.in_ok-number.ensures.is in
    let h = c.requires.each c.in_ok-number.number (omega (arith, c.loop-index-test.true)) in
    omega arith

pub loop-index-preserved : goal.loop-index-preserved
loop-index-preserved c =
    values_more c.args.scene.now c.loop-index.table.items c.push.new.self.items c.loop-index.index c.in_ok-number.number c.node.result c.loop-index.invariant c.in_ok-number.ensures.is c.node.ensures c.in_ok-push.ensures.items

pub returns : goal.returns
returns c =
    let l : length c.deref-fields.result.now ≡ length c.args.scene.now.base.now.block.now.fields = ap length (c.deref-fields.ensures.value ∙ ap (λ b. b.fields) c.block.view_is) in
    let all : c.loop-index.index ≡ length c.args.scene.now.base.now.block.now.fields = omega (arith, c.loop-index-test.false, c.loop-index.auto.index-end) in
    record { long = c.loop-index.invariant.long ∙ all; each = λ k low. c.loop-index.invariant.each k (let z = c.loop-index.invariant.long in omega arith) }
