use Rattle.std.proofs.Common.{◌≡◌, ◌<◌, ◌∙◌, ◌++◌, ap, get_or, length, map, slice_get, subst}
use Rattle.rb_model.specs.declared.block.Block.{Block}
use Rattle.word_groups.specs.Entries.{other_word, single}
use Rattle.word_groups.proofs.Slots.{read_at, singles-more, writes_at}
use Rattle.word_groups.proofs.entries.singles.Goals as goal

pub push_word-requires : goal.push_word-requires
push_word-requires c =
    let b = c.args.block.now in
    let k = c.loop-at.at in
    let w = c.read-item.result in
    let reads : c.deref-read-items.result.now ≡ b.reads = c.deref-read-items.ensures.value ∙ ap (λ (v : Block). v.reads) c.block.view_is in
    read_at b c.requires k w (subst (λ ws. k < length ws) reads c.loop-at-test.true) (c.read-item.is ∙ ap (λ ws. get_or ws k w) reads)

pub push_other-requires : goal.push_other-requires
push_other-requires c =
    let k = c.loop-at.at in
    writes_at c.args.block.now c.requires k _ (c.word_at.ensures ∙ ap (λ xs. slice_get xs k) c.deref.ensures.value ∙ ap (λ (v : Block). slice_get v.writes k) c.block.view_is)

pub loop-at-preserved : goal.loop-at-preserved
loop-at-preserved c =
    let b = c.args.block.now in
    let k = c.loop-at.at in
    let w = c.read-item.result in
    let mid = c.push_word.new.into.items in
    let reads : c.deref-read-items.result.now ≡ b.reads = c.deref-read-items.ensures.value ∙ ap (λ (v : Block). v.reads) c.block.view_is in
    let low = subst (λ ws. k < length ws) reads c.loop-at-test.true in
    let at = c.read-item.is ∙ ap (λ ws. get_or ws k w) reads in
    let writes = c.word_at.ensures ∙ ap (λ xs. slice_get xs k) c.deref.ensures.value ∙ ap (λ (v : Block). slice_get v.writes k) c.block.view_is in
    singles-more b k w c.loop-at.words.items mid c.push_other.new.into.items low at c.loop-at.invariant c.in_ok-push_word.ensures
    (c.in_ok-push_other.ensures ∙ ap (λ o. mid ++ map (single b) (other_word w o)) writes)
