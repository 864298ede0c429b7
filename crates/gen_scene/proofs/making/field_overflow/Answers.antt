use Rattle.std.proofs.Common.{subst, arith}
use Rattle.rtl_net.specs.Net.{IsNode}
use Rattle.rb_model.specs.Effects.{overflows}
use Rattle.rb_model.specs.Kept.{Val}
use Rattle.rb_model.specs.Items.{down, up}
use Rattle.gen_scene.proofs.Counts.{width_fits}
use Rattle.gen_scene.proofs.Worths.{read_node, worth3}
use Rattle.gen_scene.proofs.making.field_overflow.Goals as goal

pub overflow-requires-clause-narrow : goal.overflow-requires-clause-narrow
overflow-requires-clause-narrow c =
    let w = width_fits c.args.scene.now.base.now.block.now c.args.net.now c.args.scene.now.base.now c.args.place c.args.field.now c.requires.base c.requires.here in
    omega (arith, c.in_ok-at.ensures.value.stands.width, w.1)

pub returns-clause-worth : goal.returns-clause-worth
returns-clause-worth c =
    let b = c.args.scene.now.base.now.block.now in
    let a = c.args.scene.now.base.now.inlet in
    let mid = c.read_counter.new.net in
    let q = c.in_ok-at.at in
    let node : IsNode c.overflow.new.net c.in_ok-id.id 1 (λ i. overflows c.args.field.now.width (i.node q.value.0) (i.node q.up.0) (i.node q.down.0)) = subst (λ w. IsNode c.overflow.new.net c.in_ok-id.id 1 (λ i. overflows w (i.node q.value.0) (i.node q.up.0) (i.node q.down.0))) c.in_ok-at.ensures.value.stands.width c.in_ok-id.ensures.node in
    worth3 b a mid c.overflow.new.net c.in_ok-id.id 1 (λ x y z. overflows c.args.field.now.width x y z) (λ i. i.node q.value.0) (λ i. i.node q.up.0) (λ i. i.node q.down.0) (λ n v. n.kept (Val c.args.place)) (λ n v. up n v c.args.field.now) (λ n v. down n v c.args.field.now) c.in_ok-id.ensures.older node
    (read_node b a mid q.value _ _ c.in_ok-at.ensures.value) (read_node b a mid q.up _ _ c.in_ok-at.ensures.up) (read_node b a mid q.down _ _ c.in_ok-at.ensures.down)
