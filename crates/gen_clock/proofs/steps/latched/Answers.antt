use Rattle.std.proofs.Common.{◌≡◌, if◌then◌else◌, sym, ap, ◌∙◌, subst, arith}
use Rattle.rtl_net.specs.Net.{MayHave, seen_or_zero, width_in}
use Rattle.rtl_net.proofs.Nets.{IsNode-is, Stands-grows}
use Rattle.rb_model.specs.Effects.{latched}
use Rattle.rb_model.specs.Kept.{Last, keeps_last}
use Rattle.rb_model.specs.Items.{source_value}
use Rattle.rb_model.specs.SoundField.{FieldIsSoundIn}
use Rattle.rb_model.proofs.Eachs.{Each-from_zero}
use Rattle.gen_scene.proofs.Worths.{IsBase-grows, IsRead-grows, read_node, worth_read, worth3}
use Rattle.gen_clock.proofs.Making.{latched_kept, made_as, made_none, unlatched}
use Rattle.gen_clock.proofs.steps.latched.Goals as goal

pub present-requires-clause-wide : goal.present-requires-clause-wide
present-requires-clause-wide c =
    let b = c.args.scene.now.base.now.block.now in
    let w = (Each-from_zero (FieldIsSoundIn b) b.fields c.args.number c.args.field.now c.requires.field.base.sound.fields c.requires.field.here).alone.wide in
    (w.0, omega (arith, w.1))

pub latch-requires-clause-last : goal.latch-requires-clause-last
latch-requires-clause-last c =
    let f = c.args.field.now in
    let n0 = c.args.net.now in
    let n1 = c.present.new.net in
    let base = IsBase-grows n0 n1 c.in_ok-pin.ensures.older c.args.scene.now.base.now c.requires.field.base in
    let width : width_in n1 c.args.v ≡ f.width = (Stands-grows n0 n1 c.args.v f.width c.in_ok-pin.ensures.older c.requires.v).width in
    subst (λ w. MayHave n1 c.last.result w) (sym width) (c.last.ensures n1 f base c.requires.field.here).may

pub returns-then-not-is_latching-clause-made : goal.returns-then-not-is_latching-clause-made
returns-then-not-is_latching-clause-made c =
    made_none c.args.scene.now.base.now.block.now c.args.scene.now.base.now.inlet c.args.net.now c.args.v c.args.field.now.width _ c.requires.v
    (λ n u x. unlatched c.args.field.now.latch c.args.field.now.width x (source_value n u c.args.field.now) (n.kept (Last c.args.number)) (sym c.is_latching.ensures ∙ c.if-not-is_latching.true))

pub returns-clause-made : goal.returns-clause-made
returns-clause-made c =
    let b = c.args.scene.now.base.now.block.now in
    let a = c.args.scene.now.base.now.inlet in
    let f = c.args.field.now in
    let n0 = c.args.net.now in
    let n1 = c.present.new.net in
    let h = c.in_ok-pin.ensures.older in
    let base = IsBase-grows n0 n1 h c.args.scene.now.base.now c.requires.field.base in
    let width : width_in n1 c.args.v ≡ f.width = (Stands-grows n0 n1 c.args.v f.width h c.requires.v).width in
    let node = IsNode-is c.latch.new.net c.in_ok-id.id (width_in n1 c.args.v) f.width
    (λ x. latched f.latch (width_in n1 c.args.v) (x.node c.args.v.0) (x.node c.in_ok-pin.pin.0) (seen_or_zero x c.last.result))
    (λ x. latched f.latch f.width (x.node c.args.v.0) (x.node c.in_ok-pin.pin.0) (seen_or_zero x c.last.result))
    c.in_ok-id.ensures.node width (λ x s. ap (λ w. latched f.latch w (x.node c.args.v.0) (x.node c.in_ok-pin.pin.0) (seen_or_zero x c.last.result)) width) in
    let pin = worth_read b a n0 n1 c.in_ok-pin.pin f.width (λ x. seen_or_zero x c.source.result) (λ n u. source_value n u f) h c.in_ok-pin.ensures.node (c.source.ensures n0 c.requires.field).read in
    made_as b a n0 c.latch.new.net c.args.v c.in_ok-id.id f.width
    (λ n u x. latched f.latch f.width x (source_value n u f) (if keeps_last f.latch then n.kept (Last c.args.number) else 0)) _
    (λ n u x. latched_kept f.latch f.width x (source_value n u f) (n.kept (Last c.args.number)))
    (record {
      stands = node.stands;
      worth = λ g at. worth3 b a n1 c.latch.new.net c.in_ok-id.id f.width (λ x s l. latched f.latch f.width x s l) (λ x. x.node c.args.v.0) (λ x. x.node c.in_ok-pin.pin.0) (λ x. seen_or_zero x c.last.result)
          g (λ n u. source_value n u f) (λ n u. if keeps_last f.latch then n.kept (Last c.args.number) else 0) c.in_ok-id.ensures.older node
          (IsRead-grows b a n0 n1 (λ x. x.node c.args.v.0) g h (read_node b a n0 c.args.v f.width g at)) (read_node b a n1 c.in_ok-pin.pin f.width (λ n u. source_value n u f) pin) (c.last.ensures n1 f base c.requires.field.here).read;
    })
