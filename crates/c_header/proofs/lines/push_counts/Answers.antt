use Rattle.std.proofs.Common.{◌∙◌, ◌++◌, ap, codes, get_or, length, nat_lt}
use Rattle.c_header.specs.Header.{line}
use Rattle.c_header.specs.Macros.{Count, index_mark, macro}
use Rattle.c_header.proofs.Numbered.{flat-number}
use Rattle.c_header.proofs.lines.push_counts.Goals as goal

pub loop-place-preserved : goal.loop-place-preserved
loop-place-preserved c =
    let base = c.args.base.now in
    let xs = c.args.counts.now in
    let k = c.loop-place.place in
    let old = c.loop-place.text.items in
    let word = codes "_COUNT" ++ index_mark (nat_lt 1 (length xs)) k in
    flat-number line (λ n. macro base (codes "_COUNT" ++ index_mark (nat_lt 1 (length xs)) n.0) (Count n.1)) xs k c.args.text.now.items old c.push_count.new.text.items c.loop-place-test.true c.loop-place.invariant
    (c.in_ok-push_count.ensures ∙ ap (λ w. old ++ line (macro base w (Count (get_or xs k 0)))) (c.deref.ensures.value ∙ c.in_ok-word.ensures))
