use Rattle.std.proofs.Common.{◌≡◌, ◌<◌, ◌^◌, ◌∙◌, ◌++◌, append_assoc, ap, length, get_or, slice_get, sym, subst, take}
use Rattle.std.specs.List.{enumerate_from, flat_map}
use Rattle.rb_model.specs.declared.block.Block.{Block}
use Rattle.rb_model.proofs.PortLists.{flat_map-numbered}
use Rattle.drive_names.specs.Named.{names_at, names_of, other_names}
use Rattle.drive_names.proofs.Tables.{each_more}
use Rattle.drive_names.proofs.words.named_words.Goals as goal

pub loop-at-preserved : goal.loop-at-preserved
loop-at-preserved c =
    let b = c.args.block.now in
    let k = c.loop-at.at in
    let w = c.read-item.result in
    let before = flat_map (names_at b) (enumerate_from 0 (take k b.reads)) in
    let other = other_names b w (slice_get b.writes k) in
    let reads : c.deref-read-items.result.now ≡ b.reads = c.deref-read-items.ensures.value ∙ ap (λ (v : Block). v.reads) c.block.view_is in
    let low = subst (λ ws. k < length ws) reads c.loop-at-test.true in
    let at = c.read-item.is ∙ ap (λ ws. get_or ws k w) reads in
    record {
      words = c.in_ok-push_other.ensures
          ∙ ap (λ o. c.push_names.new.into.items ++ other_names b w o) (c.word_at.ensures ∙ ap (λ xs. slice_get xs k) c.deref.ensures.value ∙ ap (λ (v : Block). slice_get v.writes k) c.block.view_is)
          ∙ ap (λ xs. xs ++ other) (c.in_ok-push_names.ensures.names ∙ ap (λ xs. xs ++ names_of b w) c.loop-at.invariant.words)
          ∙ append_assoc before (names_of b w) other
          ∙ sym (flat_map-numbered (names_at b) b.reads k w low at);
      addresses = each_more (λ v. v.address < 2 ^ 32) b.reads k w low at c.loop-at.invariant.addresses c.in_ok-push_names.ensures.address;
    }
