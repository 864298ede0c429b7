use Rattle.std.proofs.Common.{◌∙◌, ◌++◌, ap, codes, length, nat_lt}
use Rattle.c_header.specs.Header.{line}
use Rattle.c_header.specs.Macros.{Number, index_mark, macro}
use Rattle.c_header.proofs.Numbered.{flat-number}
use Rattle.c_header.proofs.lines.push_strides.Goals as goal

pub loop-place-preserved : goal.loop-place-preserved
loop-place-preserved c =
    let base = c.args.base.now in
    let xs = c.args.strides.now in
    let k = c.loop-place.place in
    let old = c.loop-place.text.items in
    let word = codes "_STRIDE" ++ index_mark (nat_lt 1 (length xs)) k in
    flat-number line (λ n. macro base (codes "_STRIDE" ++ index_mark (nat_lt 1 (length xs)) n.0) (Number n.1)) xs k c.args.text.now.items old c.push_number.new.text.items c.loop-place-test.true c.loop-place.invariant
    (c.in_ok-push_number.ensures ∙ ap (λ w. old ++ line (macro base w (Number c.from.result))) (c.deref.ensures.value ∙ c.in_ok-word.ensures) ∙ ap (λ n. old ++ line (macro base word (Number n))) c.from.ensures)
