use Rattle.std.proofs.Common.{◌≡◌, length, map, sym, ap, ◌∙◌, arith}
use Rattle.std.proofs.lemmas.Option.{slice_get_within}
use Rattle.std.proofs.lemmas.List.{length-map}
use Rattle.block_plan.specs.declared.kept.KeptValue.TheVariants as value
use Rattle.rb_model.specs.Kept.{field_kept}
use Rattle.block_plan.specs.Kept.{kept_seen}
use Rattle.gen_clock.proofs.Edging.{IsScene-grows}
use Rattle.gen_clock.proofs.Taking.{AreMoved-grows, AreUsed-grows, contains_at, kept_at, nexts_more}
use Rattle.gen_clock.proofs.nexts.next_nodes.Goals as goal

pub next-requires-clause-scene : goal.next-requires-clause-scene
next-requires-clause-scene c = IsScene-grows c.args.net.now c.loop-kept.net c.args.scene.now c.loop-kept.invariant.older c.requires.scene

pub next-requires-clause-values : goal.next-requires-clause-values
next-requires-clause-values c = AreMoved-grows c.args.scene.now.base.now.block.now c.args.scene.now.base.now.inlet c.args.net.now c.loop-kept.net c.args.values.now c.loop-kept.invariant.older c.requires.values

pub next-requires-clause-used : goal.next-requires-clause-used
next-requires-clause-used c = AreUsed-grows c.args.scene.now.base.now.block.now c.args.scene.now.base.now.inlet c.args.net.now c.loop-kept.net c.args.used.now c.loop-kept.invariant.older c.requires.used

pub next-requires-clause-kept : goal.next-requires-clause-kept
next-requires-clause-kept c =
    let b = c.args.scene.now.base.now.block.now in
    contains_at (field_kept b) c.loop-kept.kept-index _ (kept_at b c.deref-kept-items.result.now c.loop-kept.kept-index (value.Val 0) (ap (map kept_seen) c.deref-kept-items.ensures.value ∙ c.requires.scene.base.planned.kept.all) c.loop-kept-test.true)

pub loop-kept-preserved : goal.loop-kept-preserved
loop-kept-preserved c =
    let b = c.args.scene.now.base.now.block.now in
    let same = ap (map kept_seen) c.deref-kept-items.ensures.value ∙ c.requires.scene.base.planned.kept.all in
    nexts_more b c.args.scene.now.base.now.inlet c.args.net.now c.loop-kept.net c.next.new.net c.loop-kept.nexts.items c.push.new.self.items c.loop-kept.kept-index _ c.in_ok-next.field-0
    (kept_at b c.deref-kept-items.result.now c.loop-kept.kept-index (value.Val 0) same c.loop-kept-test.true) c.loop-kept.invariant c.in_ok-next.ensures.older c.in_ok-next.ensures.name c.in_ok-next.ensures.worth c.in_ok-push.ensures.items

pub returns-clause-nexts : goal.returns-clause-nexts
returns-clause-nexts c =
    let b = c.args.scene.now.base.now.block.now in
    let same = ap (map kept_seen) c.deref-kept-items.ensures.value ∙ c.requires.scene.base.planned.kept.all in
    let l : length c.deref-kept-items.result.now ≡ length (field_kept b) = sym (length-map c.deref-kept-items.result.now kept_seen) ∙ ap length same in
    let all : c.loop-kept.kept-index ≡ length (field_kept b) = omega (arith, c.loop-kept-test.false, c.loop-kept.auto.kept-index-end) in
    record { long = c.loop-kept.invariant.long ∙ all; each = λ j k e. c.loop-kept.invariant.each j k (let z = slice_get_within (field_kept b) j k e in omega arith) e }
