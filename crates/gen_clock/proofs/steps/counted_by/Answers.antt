use Rattle.std.proofs.Common.{◌≡◌, ℕ, Option, ◌≤◌, ap, arith}
use Rattle.rtl_net.specs.Net.{seen, width_in}
use Rattle.rtl_net.proofs.Nets.{Grows-trans, IsNode-is, Stands-grows}
use Rattle.rb_model.specs.Effects.{counted}
use Rattle.rb_model.specs.Items.{down, up}
use Rattle.rb_model.specs.SoundField.{FieldIsSoundIn}
use Rattle.rb_model.proofs.Eachs.{Each-from_zero}
use Rattle.gen_scene.specs.Fields.{high_value, low_value}
use Rattle.gen_scene.proofs.Worths.{HasField-grows, IsRead-grows, IsSeenAs-grows, read_node}
use Rattle.gen_clock.proofs.Making.{worth5}
use Rattle.gen_clock.proofs.steps.counted_by.Goals as goal

pub low-requires : goal.low-requires
low-requires c = HasField-grows c.args.net.now c.high.new.net c.in_ok-high.ensures.older c.args.scene.now c.args.number c.args.field.now c.requires.field

pub counted-requires-clause-narrow : goal.counted-requires-clause-narrow
counted-requires-clause-narrow c =
    let b = c.args.scene.now.base.now.block.now in
    let f = c.args.field.now in
    let g = Grows-trans c.args.net.now c.high.new.net c.low.new.net c.in_ok-high.ensures.older c.in_ok-low.ensures.older in
    let w = (Each-from_zero (FieldIsSoundIn b) b.fields c.args.number f c.requires.field.base.sound.fields c.requires.field.here).alone.wide in
    let e : width_in c.low.new.net c.args.v ≡ f.width = (Stands-grows c.args.net.now c.low.new.net c.args.v f.width g c.requires.v).width in
    let low : f.width ≤ 64 = w.1 in
    omega arith

pub returns-clause-made : goal.returns-clause-made
returns-clause-made c =
    let b = c.args.scene.now.base.now.block.now in
    let a = c.args.scene.now.base.now.inlet in
    let f = c.args.field.now in
    let n0 = c.args.net.now in
    let n1 = c.high.new.net in
    let n2 = c.low.new.net in
    let g02 = Grows-trans n0 n1 n2 c.in_ok-high.ensures.older c.in_ok-low.ensures.older in
    let width : width_in n2 c.args.v ≡ f.width = (Stands-grows n0 n2 c.args.v f.width g02 c.requires.v).width in
    let node = IsNode-is c.counted.new.net c.in_ok-id.id (width_in n2 c.args.v) f.width
    (λ x. counted (width_in n2 c.args.v) (x.node c.args.v.0) (x.node c.args.parts.0.0) (x.node c.args.parts.1.0) (seen x c.in_ok-high.high) (seen x c.in_ok-low.low))
    (λ x. counted f.width (x.node c.args.v.0) (x.node c.args.parts.0.0) (x.node c.args.parts.1.0) (seen x c.in_ok-high.high) (seen x c.in_ok-low.low))
    c.in_ok-id.ensures.node width (λ x s. ap (λ w. counted w (x.node c.args.v.0) (x.node c.args.parts.0.0) (x.node c.args.parts.1.0) (seen x c.in_ok-high.high) (seen x c.in_ok-low.low)) width) in
    let high = (IsSeenAs-grows b a n1 n2 c.in_ok-high.high f.width (λ n v. high_value v f) c.in_ok-low.ensures.older c.in_ok-high.ensures.worth).read in
    record {
      stands = node.stands;
      worth = λ g at. worth5 b a n2 c.counted.new.net c.in_ok-id.id f.width (λ (x u d : ℕ) (h l : Option ℕ). counted f.width x u d h l)
          (λ x. x.node c.args.v.0) (λ x. x.node c.args.parts.0.0) (λ x. x.node c.args.parts.1.0) (λ x. seen x c.in_ok-high.high) (λ x. seen x c.in_ok-low.low)
          g (λ n u. up n u f) (λ n u. down n u f) (λ n u. high_value u f) (λ n u. low_value u f) c.in_ok-id.ensures.older node
          (IsRead-grows b a n0 n2 (λ x. x.node c.args.v.0) g g02 (read_node b a n0 c.args.v f.width g at))
          (IsRead-grows b a n0 n2 (λ x. x.node c.args.parts.0.0) (λ n u. up n u f) g02 (read_node b a n0 c.args.parts.0 f.width (λ n u. up n u f) c.requires.up))
          (IsRead-grows b a n0 n2 (λ x. x.node c.args.parts.1.0) (λ n u. down n u f) g02 (read_node b a n0 c.args.parts.1 f.width (λ n u. down n u f) c.requires.down))
          high c.in_ok-low.ensures.worth.read;
    }
