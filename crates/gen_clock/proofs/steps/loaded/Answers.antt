use Rattle.std.proofs.Common.{codes}
use Rattle.rtl_net.specs.Net.{seen_or_zero}
use Rattle.rb_model.specs.Effects.{loaded}
use Rattle.rb_model.specs.Items.{gated, source_value}
use Rattle.gen_scene.proofs.Worths.{read_node, worth3}
use Rattle.gen_clock.proofs.steps.loaded.Goals as goal

pub returns-clause-made : goal.returns-clause-made
returns-clause-made c =
    let b = c.args.scene.now.base.now.block.now in
    let a = c.args.scene.now.base.now.inlet in
    let f = c.args.field.now in
    record {
      stands = c.in_ok-id.ensures.node.stands;
      worth = λ g at. worth3 b a c.args.net.now c.load.new.net c.in_ok-id.id f.width (λ x s t. loaded f x s t) (λ x. x.node c.args.v.0) (λ x. seen_or_zero x c.source.result) (λ x. seen_or_zero x c.gate.result)
          g (λ n u. source_value n u f) (λ n u. gated n u f.gate (codes "we$") (codes "wel$") f.path) c.in_ok-id.ensures.older c.in_ok-id.ensures.node
          (read_node b a c.args.net.now c.args.v f.width g at) (c.source.ensures c.args.net.now c.requires.field).read (c.gate.ensures c.args.net.now c.requires.field).read;
    }
