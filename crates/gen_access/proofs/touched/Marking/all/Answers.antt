use Rattle.std.proofs.Common.{◌≡◌, ◌<◌, length, ap, subst, arith}
use Rattle.rtl_net.specs.Ids.{at}
use Rattle.rtl_net.proofs.Nets.{Stands-grows}
use Rattle.rtl_net.proofs.Places.{read_at}
use Rattle.rb_model.specs.Sound.{WordIsSound}
use Rattle.rb_model.proofs.Eachs.{Each-at}
use Rattle.gen_access.specs.Tables.{Changes}
use Rattle.gen_access.specs.Words.{below}
use Rattle.gen_access.specs.Touches.{one_bit, slot_mark, touch_reached, touch_ways, touch_words, touches}
use Rattle.gen_access.proofs.Turns.{AreHitsOf-grows, below_more, below_none, passes_more, slots_step, steps_more, steps_none, touch_acts, touched_sound}
use Rattle.gen_access.proofs.touched.Marking.all.Goals as goal

pub loop-number-init : goal.loop-number-init
loop-number-init c =
    let b = c.args.self.now.base.now.block.now in
    let t = c.args.self.now.touch in
    let each = slot_mark b c.args.self.now.wanted.now c.args.self.now.mark t in
    let words = touch_words b t in
    steps_none b c.args.self.now.base.now.inlet c.args.net.now c.args.table.now one_bit (below words (touch_reached t) each 0) c.requires.table (below_none words (touch_reached t) each)

pub word-requires-clause-hit : goal.word-requires-clause-hit
word-requires-clause-hit c =
    let b = c.args.self.now.base.now.block.now in
    let words = touch_words b c.args.self.now.touch in
    let low : c.loop-number.number < length words = (let l = ap length c.words-word-items.ensures in omega (arith, c.loop-number-test.true)) in
    Stands-grows c.args.net.now c.loop-number.net (at c.args.hits.now c.loop-number.number) 1 c.loop-number.invariant.older (c.requires.hits.stand c.loop-number.number low)

pub word-requires-clause-word : goal.word-requires-clause-word
word-requires-clause-word c =
    let b = c.args.self.now.base.now.block.now in
    let t = c.args.self.now.touch in
    let each = slot_mark b c.args.self.now.wanted.now c.args.self.now.mark t in
    let words = touch_words b t in
    Each-at (WordIsSound b) words c.loop-number.number c.word-item.result (touched_sound b t c.requires.sound)
    (read_at c.words-word-items.result.now words c.loop-number.number c.word-item.result c.words-word-items.ensures c.loop-number-test.true c.word-item.is)

pub loop-number-preserved : goal.loop-number-preserved
loop-number-preserved c =
    let b = c.args.self.now.base.now.block.now in
    let a = c.args.self.now.base.now.inlet in
    let t = c.args.self.now.touch in
    let each = slot_mark b c.args.self.now.wanted.now c.args.self.now.mark t in
    let words = touch_words b t in
    let j = c.loop-number.number in
    let here = read_at c.words-word-items.result.now words j c.word-item.result c.words-word-items.ensures c.loop-number-test.true c.word-item.is in
    let hits = AreHitsOf-grows b a c.args.net.now c.loop-number.net words (touch_reached t) (touch_ways t) c.args.hits.now c.loop-number.invariant.older c.requires.hits in
    steps_more b a c.args.net.now c.loop-number.net c.word.new.net c.args.table.now c.loop-number.table c.word.new.table one_bit
    (below words (touch_reached t) each j) (slots_step (touch_reached t) each j c.word-item.result.slots) _
    (λ n v there i k f x. below_more words (touch_reached t) each j c.word-item.result here n v k f x)
    c.loop-number.invariant c.in_ok-word.ensures.older c.in_ok-word.ensures.name c.in_ok-word.ensures.table (c.in_ok-word.ensures.changes j (λ q. hits.each j c.word-item.result here (passes_more b (touches t) (touch_ways t) (touch_acts t) c.word-item.result.slots q)))

pub returns-clause-changes : goal.returns-clause-changes
returns-clause-changes c =
    let b = c.args.self.now.base.now.block.now in
    let t = c.args.self.now.touch in
    let each = slot_mark b c.args.self.now.wanted.now c.args.self.now.mark t in
    let words = touch_words b t in
    let all : c.loop-number.number ≡ length words = (let l = ap length c.words-word-items.ensures in omega (arith, c.loop-number-test.false, c.loop-number.auto.number-end)) in
    subst (λ m. Changes b c.args.self.now.base.now.inlet c.args.net.now c.loop-number.net c.args.table.now c.loop-number.table one_bit (below words (touch_reached t) each m)) all c.loop-number.invariant.changes
