use Rattle.std.proofs.Common.{◌<◌, ◌++◌, length, map, ap, ◌∙◌, arith}
use Rattle.std.proofs.lemmas.List.{take_all}
use Rattle.std.proofs.lemmas.Option.{slice_get_within}
use Rattle.rtl_net.specs.Net.{registers_of}
use Rattle.rb_model.specs.Kept.{field_kept, kept_pin}
use Rattle.gen_scene.proofs.Registering.{all_listed, kept_among, kept_at, kept_worths, next_new, none_yet, one_register}
use Rattle.gen_scene.proofs.Worths.{HasPins-extends}
use Rattle.gen_scene.proofs.kept.registers.Goals as goal

pub register-requires-clause-own : goal.register-requires-clause-own
register-requires-clause-own c =
    let b = c.args.block.now in
    kept_among b c.loop-kept.kept-index _ (kept_at b c.args.plan.now c.requires.planned _ c.loop-kept.kept-index _ c.deref-kept-items.ensures.value c.loop-kept-test.true)

pub register-requires-clause-clock : goal.register-requires-clause-clock
register-requires-clause-clock c = c.loop-kept.invariant.older.clock c.requires.clock

pub register-requires-clause-pins : goal.register-requires-clause-pins
register-requires-clause-pins c = HasPins-extends c.args.net.now c.loop-kept.net c.loop-kept.invariant.older c.args.block.now c.args.pins.now c.requires.pins

pub register-requires-clause-new : goal.register-requires-clause-new
register-requires-clause-new c =
    let b = c.args.block.now in
    let here = kept_at b c.args.plan.now c.requires.planned _ c.loop-kept.kept-index _ c.deref-kept-items.ensures.value c.loop-kept-test.true in
    next_new b c.args.plan.now c.args.pins.now c.args.net.now c.loop-kept.net c.loop-kept.ids.items c.loop-kept.kept-index _ (c.names_differ.ensures b c.requires.sound) c.loop-kept.invariant here (c.requires.new _ (kept_among b c.loop-kept.kept-index _ here))

pub loop-kept-init : goal.loop-kept-init
loop-kept-init c = rw c.new-ids.ensures.items (none_yet c.args.block.now c.args.plan.now c.args.pins.now c.args.net.now)

pub loop-kept-preserved : goal.loop-kept-preserved
loop-kept-preserved c =
    let b = c.args.block.now in
    let here = kept_at b c.args.plan.now c.requires.planned _ c.loop-kept.kept-index _ c.deref-kept-items.ensures.value c.loop-kept-test.true in
    one_register b c.args.plan.now c.args.pins.now c.args.net.now c.loop-kept.net c.register.new.net c.loop-kept.ids.items c.push.new.self.items c.loop-kept.kept-index _ c.in_ok-register.field-0 c.loop-kept.invariant here c.in_ok-push.ensures.items
    c.in_ok-register.ensures.older c.in_ok-register.ensures.name c.in_ok-register.ensures.keeps c.in_ok-register.ensures.seats c.in_ok-register.ensures.registers c.in_ok-register.ensures.undriven c.in_ok-register.ensures.awaits c.in_ok-register.ensures.node

pub returns-clause-registers : goal.returns-clause-registers
returns-clause-registers c =
    let b = c.args.block.now in
    let n = all_listed b c.args.plan.now c.requires.planned _ c.loop-kept.kept-index c.deref-kept-items.ensures.value c.loop-kept.auto.kept-index-end c.loop-kept-test.false in
    c.loop-kept.invariant.registers ∙ ap (λ ks. registers_of c.args.net.now.nodes ++ map (kept_pin b) ks) (take_all c.loop-kept.kept-index (field_kept b) (omega (arith, n)))

pub returns-clause-undriven : goal.returns-clause-undriven
returns-clause-undriven c =
    let b = c.args.block.now in
    let n = all_listed b c.args.plan.now c.requires.planned _ c.loop-kept.kept-index c.deref-kept-items.ensures.value c.loop-kept.auto.kept-index-end c.loop-kept-test.false in
    omega (arith, n, c.loop-kept.invariant.undriven)

pub returns-clause-awaits : goal.returns-clause-awaits
returns-clause-awaits c j k here =
    let b = c.args.block.now in
    let n = all_listed b c.args.plan.now c.requires.planned _ c.loop-kept.kept-index c.deref-kept-items.ensures.value c.loop-kept.auto.kept-index-end c.loop-kept-test.false in
    let low : j < length (field_kept b) = slice_get_within (field_kept b) j k here in
    c.loop-kept.invariant.awaits j k (omega (arith, n, low)) here

pub returns-clause-worth : goal.returns-clause-worth
returns-clause-worth c a =
    let b = c.args.block.now in
    let n = all_listed b c.args.plan.now c.requires.planned _ c.loop-kept.kept-index c.deref-kept-items.ensures.value c.loop-kept.auto.kept-index-end c.loop-kept-test.false in
    let has = HasPins-extends c.args.net.now c.loop-kept.net c.loop-kept.invariant.older b c.args.pins.now c.requires.pins in
    kept_worths b c.requires.sound c.args.plan.now c.requires.planned c.loop-kept.net c.args.pins.now c.loop-kept.ids.items has (c.loop-kept.invariant.long ∙ n)
    (λ j k here. let low : j < length (field_kept b) = slice_get_within (field_kept b) j k here in c.loop-kept.invariant.nodes j k (omega (arith, n, low)) here) a
