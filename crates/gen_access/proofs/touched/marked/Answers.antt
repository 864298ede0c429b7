use Rattle.std.proofs.Common.{◌≡◌, length, if◌then◌else◌, sym, subst, arith}
use Rattle.block_plan.specs.Wanted.{is_wanted}
use Rattle.gen_access.specs.Tables.{AreWorth}
use Rattle.gen_access.specs.Words.{written_word, writes_through}
use Rattle.gen_access.specs.Touches.{mark_item, mark_value, one_bit, touch_reached, touch_ways, touch_words}
use Rattle.gen_access.proofs.Turns.{AreHitsOf-grows, lent}
use Rattle.gen_access.proofs.MarkSteps.{marks_made}
use Rattle.gen_access.proofs.touched.marked.Goals as goal

pub put_marks-requires-clause-reads : goal.put_marks-requires-clause-reads
put_marks-requires-clause-reads c =
    let b = c.args.base.now.block.now in
    AreHitsOf-grows b c.args.base.now.inlet c.args.net.now c.no_marks.new.net (touch_words b c.args.reading) (touch_reached c.args.reading) (touch_ways c.args.reading) c.args.hits.now.reads.items c.in_ok-table.ensures.older c.requires.reads

pub put_marks-requires-clause-writes : goal.put_marks-requires-clause-writes
put_marks-requires-clause-writes c =
    let b = c.args.base.now.block.now in
    AreHitsOf-grows b c.args.base.now.inlet c.args.net.now c.no_marks.new.net b.writes written_word writes_through c.args.hits.now.writes.items c.in_ok-table.ensures.older c.requires.writes

pub returns-clause-worth : goal.returns-clause-worth
returns-clause-worth c =
    let b = c.args.base.now.block.now in
    let a = c.args.base.now.inlet in
    let before : AreWorth b a c.no_marks.new.net c.deref_mut.result.now one_bit (λ k f n v. 0)
    = subst (λ xs. AreWorth b a c.no_marks.new.net xs one_bit (λ k f n v. 0)) (sym c.deref_mut.ensures.value) c.in_ok-table.ensures.worth in
    let made = marks_made b a c.put_marks.new.net c.put_marks.new.table c.args.wanted.now c.args.mark c.args.reading c.requires.reading (c.in_ok-put_marks.ensures.changes.worth (λ k f n v. 0) before) in
    let long : length c.put_marks.new.table ≡ c.in_ok-table.table.len = (let l = c.in_ok-table.table.ok.0 in let p = c.in_ok-put_marks.ensures.table.long in let q = c.in_ok-table.ensures.table.long in omega arith) in
    subst (λ xs. AreWorth b a c.put_marks.new.net xs one_bit (λ k f n v. if is_wanted c.args.wanted.now (mark_item c.args.mark k) then mark_value b c.args.reading n k else 0))
    (sym (lent c.in_ok-table.table.len c.put_marks.new.table c.in_ok-table.table.items long)) made
