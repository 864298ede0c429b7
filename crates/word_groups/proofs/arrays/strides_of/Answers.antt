use Rattle.std.proofs.Common.{◌≡◌, ◌∙◌, ◌<◌, ◌++◌, ◌∷◌, [], ap, arith, length, sym}
use Rattle.word_groups.specs.declared.entries.Entry.{Entry}
use Rattle.word_groups.specs.Arrays.{stride_at}
use Rattle.word_groups.proofs.AtEach.{at_each-more}
use Rattle.word_groups.proofs.arrays.strides_of.Goals as goal

pub loop-place-preserved : goal.loop-place-preserved
loop-place-preserved c =
    let first = c.args.first.now in
    let es = c.args.entries.now in
    let k = c.loop-place.place in
    let old = c.loop-place.items.items in
    let f = stride_at first.address es in
    let low : k < length first.indices = omega (arith, c.loop-place-test.true, c.len-place-end.ensures, ap (λ (e : Entry). length e.indices) c.first.view_is) in
    let stride : c.stride_at.result ≡ f k = c.stride_at.ensures ∙ ap (λ (e : Entry). stride_at e.address es k) c.first.view_is in
    c.in_ok-push.ensures.items ∙ ap (λ n. old ++ n ∷ []) stride ∙ ap (λ ys. ys ++ f k ∷ []) c.loop-place.invariant ∙ sym (at_each-more f first.indices k low)
