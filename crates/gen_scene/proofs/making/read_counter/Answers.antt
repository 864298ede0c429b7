use Rattle.std.proofs.Common.{if◌then◌else◌, refl, arith, ap}
use Rattle.rb_model.specs.Kept.{Val, is_storage}
use Rattle.rb_model.specs.Items.{down, up}
use Rattle.gen_scene.proofs.Counts.{width_fits}
use Rattle.gen_scene.proofs.Made.{counter_stores, present_worth}
use Rattle.gen_scene.proofs.Worths.{HasNodes-grows, IsBase-grows, IsWorth-grows, worth_as}
use Rattle.rtl_net.proofs.Nets.{Grows-trans}
use Rattle.gen_scene.proofs.making.read_counter.Goals as goal

pub counted_down-requires-clause-base : goal.counted_down-requires-clause-base
counted_down-requires-clause-base c = IsBase-grows c.args.net.now c.counted_up.new.net c.in_ok-up.ensures.older c.args.scene.now.base.now c.requires.base

pub counted_down-requires-clause-refs : goal.counted_down-requires-clause-refs
counted_down-requires-clause-refs c = HasNodes-grows c.args.net.now c.counted_up.new.net c.in_ok-up.ensures.older c.args.scene.now _ c.requires.refs

pub present-requires-clause-wide : goal.present-requires-clause-wide
present-requires-clause-wide c =
    let w = width_fits c.args.scene.now.base.now.block.now c.args.net.now c.args.scene.now.base.now c.args.place c.args.field.now c.requires.base c.requires.here in
    (w.0, omega (arith, w.1))

pub present-requires-clause-stands : goal.present-requires-clause-stands
present-requires-clause-stands c =
    let grown = Grows-trans c.args.net.now c.counted_up.new.net c.counted_down.new.net c.in_ok-up.ensures.older c.in_ok-down.ensures.older in
    (c.value.ensures c.counted_down.new.net c.args.field.now (IsBase-grows c.args.net.now c.counted_down.new.net grown c.args.scene.now.base.now c.requires.base) c.requires.here).may

pub returns-clause-value : goal.returns-clause-value
returns-clause-value c =
    let b = c.args.scene.now.base.now.block.now in
    let a = c.args.scene.now.base.now.inlet in
    let grown = Grows-trans c.args.net.now c.counted_up.new.net c.counted_down.new.net c.in_ok-up.ensures.older c.in_ok-down.ensures.older in
    let kept = c.value.ensures c.counted_down.new.net c.args.field.now (IsBase-grows c.args.net.now c.counted_down.new.net grown c.args.scene.now.base.now c.requires.base) c.requires.here in
    worth_as b a c.present.new.net c.in_ok-value.value c.args.field.now.width c.args.field.now.width _ _ (present_worth b a c.counted_down.new.net c.present.new.net c.value.result c.in_ok-value.value c.args.field.now.width _ kept c.in_ok-value.ensures.older c.in_ok-value.ensures.node) refl
    (λ n v k. ap (λ x. if is_storage x then n.kept (Val c.args.place) else 0) (counter_stores b c.requires.base.sound c.args.place c.args.field.now c.requires.here c.requires.counter))

pub returns-clause-up : goal.returns-clause-up
returns-clause-up c =
    let b = c.args.scene.now.base.now.block.now in
    let a = c.args.scene.now.base.now.inlet in
    IsWorth-grows b a c.counted_up.new.net c.present.new.net c.in_ok-up.up c.args.field.now.width (λ n v. up n v c.args.field.now) (Grows-trans c.counted_up.new.net c.counted_down.new.net c.present.new.net c.in_ok-down.ensures.older c.in_ok-value.ensures.older) c.in_ok-up.ensures.worth

pub returns-clause-down : goal.returns-clause-down
returns-clause-down c =
    let b = c.args.scene.now.base.now.block.now in
    let a = c.args.scene.now.base.now.inlet in
    IsWorth-grows b a c.counted_down.new.net c.present.new.net c.in_ok-down.down c.args.field.now.width (λ n v. down n v c.args.field.now) c.in_ok-value.ensures.older c.in_ok-down.ensures.worth
