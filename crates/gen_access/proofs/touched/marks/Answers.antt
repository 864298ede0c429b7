use Rattle.std.proofs.Common.{subst}
use Rattle.gen_access.specs.declared.touched.Touch.TheVariants as touch
use Rattle.gen_access.specs.Words.{written_word, writes_through}
use Rattle.gen_access.specs.Touches.{ArePaired, one_bit, touch_reached, touch_ways, touch_words}
use Rattle.gen_access.proofs.Turns.{AreHitsOf-grows, AreWorth-grows}
use Rattle.gen_access.proofs.MarkSteps.{paired_marks}
use Rattle.gen_access.proofs.touched.marks.Goals as goal

pub marked-requires-2-clause-reads : goal.marked-requires-2-clause-reads
marked-requires-2-clause-reads c =
    let b = c.args.base.now.block.now in
    AreHitsOf-grows b c.args.base.now.inlet c.args.net.now c.marked.new.net (touch_words b touch.Reads) (touch_reached touch.Reads) (touch_ways touch.Reads) c.args.hits.now.reads.items c.in_ok-modified.ensures.older c.requires.reads

pub marked-requires-2-clause-writes : goal.marked-requires-2-clause-writes
marked-requires-2-clause-writes c =
    let b = c.args.base.now.block.now in
    AreHitsOf-grows b c.args.base.now.inlet c.args.net.now c.marked.new.net b.writes written_word writes_through c.args.hits.now.writes.items c.in_ok-modified.ensures.older c.requires.writes

pub returns-clause-marks : goal.returns-clause-marks
returns-clause-marks c =
    let b = c.args.base.now.block.now in
    let a = c.args.base.now.inlet in
    let pairs : ArePaired c.in_ok-modified.modified.items c.in_ok-accessed.accessed.items c.in_ok-all.all.items
    = subst (λ xs. ArePaired c.in_ok-modified.modified.items xs c.in_ok-all.all.items) c.deref-2.ensures.value (subst (λ xs. ArePaired xs c.deref-2.result.now c.in_ok-all.all.items) c.deref.ensures.value c.in_ok-all.ensures) in
    paired_marks b a c.marked-2.new.net c.args.wanted.now c.in_ok-modified.modified.items c.in_ok-accessed.accessed.items c.in_ok-all.all.items c.in_ok-modified.ensures.long pairs
    (AreWorth-grows b a c.marked.new.net c.marked-2.new.net c.in_ok-modified.modified.items one_bit _ c.in_ok-accessed.ensures.older c.in_ok-modified.ensures.worth) c.in_ok-accessed.ensures.worth
