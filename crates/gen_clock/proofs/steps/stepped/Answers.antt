use Rattle.std.proofs.Common.{not, ap, ◌∙◌}
use Rattle.rtl_net.proofs.Nets.{Grows-trans}
use Rattle.rb_model.specs.Items.{down, up}
use Rattle.gen_scene.proofs.Worths.{HasField-grows, IsWorth-grows}
use Rattle.gen_clock.proofs.Making.{counts_are, made_as, made_from, made_none, uncounted}
use Rattle.gen_clock.proofs.steps.stepped.Goals as goal

pub down-requires : goal.down-requires
down-requires c = HasField-grows c.args.net.now c.up.new.net c.in_ok-up.ensures.older c.args.scene.now c.args.number c.args.field.now c.requires.field

pub counted_by-requires-clause-field : goal.counted_by-requires-clause-field
counted_by-requires-clause-field c =
    let g = Grows-trans c.args.net.now c.up.new.net c.down.new.net c.in_ok-up.ensures.older c.in_ok-down.ensures.older in
    HasField-grows c.args.net.now c.down.new.net g c.args.scene.now c.args.number c.args.field.now c.requires.field

pub counted_by-requires-clause-up : goal.counted_by-requires-clause-up
counted_by-requires-clause-up c =
    IsWorth-grows c.args.scene.now.base.now.block.now c.args.scene.now.base.now.inlet c.up.new.net c.down.new.net c.in_ok-up.up c.args.field.now.width (λ n u. up n u c.args.field.now) c.in_ok-down.ensures.older c.in_ok-up.ensures.worth

pub returns-then-is_none-clause-made : goal.returns-then-is_none-clause-made
returns-then-is_none-clause-made c =
    made_none c.args.scene.now.base.now.block.now c.args.scene.now.base.now.inlet c.args.net.now c.args.v c.args.field.now.width _ c.requires.v
    (λ n u x. uncounted c.args.field.now.count _ x (c.is_none.ensures ∙ ap not c.if-is_none.true))

pub returns-clause-made : goal.returns-clause-made
returns-clause-made c =
    let b = c.args.scene.now.base.now.block.now in
    let a = c.args.scene.now.base.now.inlet in
    let f = c.args.field.now in
    let n0 = c.args.net.now in
    let n2 = c.down.new.net in
    let g = Grows-trans n0 c.up.new.net n2 c.in_ok-up.ensures.older c.in_ok-down.ensures.older in
    made_as b a n0 c.counted_by.new.net c.args.v c.in_ok-id.id f.width _ _ (λ n u x. counts_are f.count f.width x (up n u f) (down n u f) u (c.is_none.ensures ∙ ap not c.if-is_none.false))
    (made_from b a n0 n2 c.counted_by.new.net c.args.v c.in_ok-id.id f.width _ g c.in_ok-id.ensures.made)
