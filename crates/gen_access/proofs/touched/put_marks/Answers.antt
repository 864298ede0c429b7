use Rattle.std.proofs.Common.{sym, subst}
use Rattle.gen_access.specs.Words.{AreHitsOf, written_word, writes_through}
use Rattle.gen_access.proofs.Turns.{AreHitsOf-grows}
use Rattle.gen_access.proofs.touched.put_marks.Goals as goal

pub all-requires-2-clause-hits : goal.all-requires-2-clause-hits
all-requires-2-clause-hits c =
    let b = c.args.base.now.block.now in
    let a = c.args.base.now.inlet in
    let h = AreHitsOf-grows b a c.args.net.now c.all.new.net b.writes written_word writes_through c.args.hits.now.writes.items c.in_ok-all.ensures.older c.requires.writes in
    subst (λ xs. AreHitsOf b a c.all.new.net b.writes written_word writes_through xs) (sym c.deref-2.ensures.value) h
