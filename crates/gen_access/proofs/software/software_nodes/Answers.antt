use Rattle.std.proofs.Common.{◌≡◌, ◌<◌, length, ap, subst, arith}
use Rattle.rtl_net.specs.Ids.{at}
use Rattle.rtl_net.proofs.Nets.{Stands-grows}
use Rattle.rtl_net.proofs.Places.{read_at}
use Rattle.rb_model.specs.Sound.{WordIsSound}
use Rattle.rb_model.proofs.Eachs.{Each-at}
use Rattle.gen_access.specs.Tables.{Changes}
use Rattle.gen_access.specs.Words.{below}
use Rattle.gen_access.specs.Effects.{has_effect, reached_by, slot_effect, ways_of, width_of, words_of}
use Rattle.gen_access.proofs.Turns.{AreHitsOf-grows, HasViews-grows, below_more, below_none, effect_acts, passes_more, slots_step, steps_more, steps_none, words_sound}
use Rattle.gen_access.proofs.software.software_nodes.Goals as goal

pub loop-number-init : goal.loop-number-init
loop-number-init c =
    let b = c.args.scene.now.base.now.block.now in
    let e = c.args.effect in
    steps_none b c.args.scene.now.base.now.inlet c.args.net.now c.args.table.now (width_of e) (below (words_of b e) (reached_by e) (slot_effect b e) 0) c.requires.table (below_none (words_of b e) (reached_by e) (slot_effect b e))

pub put_word-requires-clause-views : goal.put_word-requires-clause-views
put_word-requires-clause-views c = HasViews-grows c.args.net.now c.loop-number.net c.args.scene.now c.loop-number.invariant.older c.requires.views

pub put_word-requires-clause-hit : goal.put_word-requires-clause-hit
put_word-requires-clause-hit c =
    let b = c.args.scene.now.base.now.block.now in
    let e = c.args.effect in
    let low : c.loop-number.number < length (words_of b e) = (let l = ap length c.words-word-items.ensures in omega (arith, c.loop-number-test.true)) in
    Stands-grows c.args.net.now c.loop-number.net (at c.args.hits.now c.loop-number.number) 1 c.loop-number.invariant.older (c.requires.hits.stand c.loop-number.number low)

pub put_word-requires-clause-word : goal.put_word-requires-clause-word
put_word-requires-clause-word c =
    let b = c.args.scene.now.base.now.block.now in
    let e = c.args.effect in
    Each-at (WordIsSound b) (words_of b e) c.loop-number.number c.word-item.result (words_sound b e c.requires.views.base.sound)
    (read_at c.words-word-items.result.now (words_of b e) c.loop-number.number c.word-item.result c.words-word-items.ensures c.loop-number-test.true c.word-item.is)

pub loop-number-preserved : goal.loop-number-preserved
loop-number-preserved c =
    let b = c.args.scene.now.base.now.block.now in
    let a = c.args.scene.now.base.now.inlet in
    let e = c.args.effect in
    let j = c.loop-number.number in
    let here = read_at c.words-word-items.result.now (words_of b e) j c.word-item.result c.words-word-items.ensures c.loop-number-test.true c.word-item.is in
    let hits = AreHitsOf-grows b a c.args.net.now c.loop-number.net (words_of b e) (reached_by e) (ways_of e) c.args.hits.now c.loop-number.invariant.older c.requires.hits in
    let slots = c.word-item.result.slots in
    steps_more b a c.args.net.now c.loop-number.net c.put_word.new.net c.args.table.now c.loop-number.table c.put_word.new.table (width_of e)
    (below (words_of b e) (reached_by e) (slot_effect b e) j) (slots_step (reached_by e) (slot_effect b e) j c.word-item.result.slots) _
    (λ n v t i k f x. below_more (words_of b e) (reached_by e) (slot_effect b e) j c.word-item.result here n v k f x)
    c.loop-number.invariant c.in_ok-put_word.ensures.older c.in_ok-put_word.ensures.name c.in_ok-put_word.ensures.table (c.in_ok-put_word.ensures.changes j (λ t. hits.each j c.word-item.result here (passes_more b (has_effect e) (ways_of e) (effect_acts e) slots t)))

pub returns-clause-changes : goal.returns-clause-changes
returns-clause-changes c =
    let b = c.args.scene.now.base.now.block.now in
    let e = c.args.effect in
    let all : c.loop-number.number ≡ length (words_of b e) = (let l = ap length c.words-word-items.ensures in omega (arith, c.loop-number-test.false, c.loop-number.auto.number-end)) in
    subst (λ m. Changes b c.args.scene.now.base.now.inlet c.args.net.now c.loop-number.net c.args.table.now c.loop-number.table (width_of e) (below (words_of b e) (reached_by e) (slot_effect b e) m)) all c.loop-number.invariant.changes
