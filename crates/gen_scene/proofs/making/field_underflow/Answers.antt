use Rattle.std.proofs.Common.{arith}
use Rattle.rtl_net.specs.Net.{IsNode}
use Rattle.rb_model.specs.Effects.{underflows}
use Rattle.rb_model.specs.Kept.{Val}
use Rattle.rb_model.specs.Items.{down, up}
use Rattle.gen_scene.proofs.Counts.{width_fits}
use Rattle.gen_scene.proofs.Worths.{read_node, worth3}
use Rattle.gen_scene.proofs.making.field_underflow.Goals as goal

pub underflow-requires-clause-narrow : goal.underflow-requires-clause-narrow
underflow-requires-clause-narrow c =
    let w = width_fits c.args.scene.now.base.now.block.now c.args.net.now c.args.scene.now.base.now c.args.place c.args.field.now c.requires.base c.requires.here in
    omega (arith, c.in_ok-at.ensures.value.stands.width, w.1)

pub returns-clause-worth : goal.returns-clause-worth
returns-clause-worth c =
    let b = c.args.scene.now.base.now.block.now in
    let a = c.args.scene.now.base.now.inlet in
    let mid = c.read_counter.new.net in
    let q = c.in_ok-at.at in
    let node : IsNode c.underflow.new.net c.in_ok-id.id 1 (λ i. underflows (i.node q.value.0) (i.node q.up.0) (i.node q.down.0)) = c.in_ok-id.ensures.node in
    worth3 b a mid c.underflow.new.net c.in_ok-id.id 1 (λ x y z. underflows x y z) (λ i. i.node q.value.0) (λ i. i.node q.up.0) (λ i. i.node q.down.0) (λ n v. n.kept (Val c.args.place)) (λ n v. up n v c.args.field.now) (λ n v. down n v c.args.field.now) c.in_ok-id.ensures.older node
    (read_node b a mid q.value _ _ c.in_ok-at.ensures.value) (read_node b a mid q.up _ _ c.in_ok-at.ensures.up) (read_node b a mid q.down _ _ c.in_ok-at.ensures.down)
