use Rattle.std.proofs.Common.{codes, ◌++◌}
use Rattle.rtl_net.specs.Net.{seen_or_zero}
use Rattle.rb_model.specs.Effects.{finished}
use Rattle.rb_model.specs.Items.{fed, mask_value}
use Rattle.gen_scene.proofs.Worths.{read_node}
use Rattle.gen_clock.proofs.Making.{worth5}
use Rattle.gen_clock.proofs.steps.finished.Goals as goal

pub returns-clause-made : goal.returns-clause-made
returns-clause-made c =
    let b = c.args.scene.now.base.now.block.now in
    let a = c.args.scene.now.base.now.inlet in
    let f = c.args.field.now in
    let net = c.args.net.now in
    record {
      stands = c.in_ok-id.ensures.node.stands;
      worth = λ g h was at. worth5 b a net c.finish.new.net c.in_ok-id.id f.width (λ o x s k m. finished f o x s k m) (λ x. x.node c.args.old.0) (λ x. x.node c.args.v.0) (λ x. seen_or_zero x c.set.result) (λ x. seen_or_zero x c.clear.result) (λ x. seen_or_zero x c.keep.result)
          g h (λ n u. fed n u f.set (codes "hwset$" ++ f.path)) (λ n u. fed n u f.clear (codes "hwclr$" ++ f.path)) (λ n u. mask_value u f.keep) c.in_ok-id.ensures.older c.in_ok-id.ensures.node
          (read_node b a net c.args.old f.width g was) (read_node b a net c.args.v f.width h at) (c.set.ensures net c.requires.field).read (c.clear.ensures net c.requires.field).read (c.keep.ensures net c.args.number c.requires.field).read;
    }
