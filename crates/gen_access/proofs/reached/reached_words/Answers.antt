use Rattle.std.proofs.Common.{refl, arith}
use Rattle.rtl_net.proofs.Places.{read_at}
use Rattle.rb_model.specs.Sound.{WordIsSound}
use Rattle.rb_model.proofs.Eachs.{Each-at}
use Rattle.gen_access.specs.Words.{acts_through}
use Rattle.gen_access.proofs.Marked.{marked_none, marked_more, marked_all}
use Rattle.gen_access.proofs.reached.reached_words.Goals as goal

pub loop-word-init : goal.loop-word-init
loop-word-init c = marked_none c.args.block.now (acts_through c.args.way) c.args.words.now c.in_ok-marks.marks.items c.in_ok-marks.ensures.items

pub acts_in-requires : goal.acts_in-requires
acts_in-requires c =
    Each-at (WordIsSound c.args.block.now) c.args.words.now c.loop-word.word-index c.word-item.result c.requires
    (read_at c.args.words.now c.args.words.now c.loop-word.word-index c.word-item.result refl c.loop-word-test.true c.word-item.is)

pub loop-word-preserved : goal.loop-word-preserved
loop-word-preserved c =
    marked_more c.args.block.now (acts_through c.args.way) c.args.words.now c.loop-word.marks.items c.push.new.self.items c.loop-word.word-index c.word-item.result c.acts_in.result
    (read_at c.args.words.now c.args.words.now c.loop-word.word-index c.word-item.result refl c.loop-word-test.true c.word-item.is) c.acts_in.ensures c.loop-word.invariant c.in_ok-push.ensures.items

pub returns : goal.returns
returns c = marked_all c.args.block.now (acts_through c.args.way) c.args.words.now c.loop-word.marks.items c.loop-word.word-index c.loop-word-test.false c.loop-word.invariant (omega arith)
