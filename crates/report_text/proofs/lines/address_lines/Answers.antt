use Rattle.std.proofs.Common.{◌∙◌, ◌++◌, append_assoc, ap, slice_get, sym}
use Rattle.rb_model.specs.declared.block.Block.{Block}
use Rattle.report_text.specs.Lines.{other_line, word_line}
use Rattle.report_text.proofs.Rows.{got, lines_to, one_more}
use Rattle.report_text.proofs.lines.address_lines.Goals as goal

pub loop-at-preserved : goal.loop-at-preserved
loop-at-preserved c =
    let b = c.args.block.now in
    let k = c.loop-at.at in
    let w = c.read-item.result in
    let other = other_line b w (slice_get b.writes k) in
    c.in_ok-push_other.ensures ∙ ap (λ o. c.push_word.new.text.items ++ other_line b w o) (c.word_at.ensures ∙ ap (λ xs. slice_get xs k) c.deref.ensures.value ∙ ap (λ (v : Block). slice_get v.writes k) c.block.view_is) ∙ ap (λ xs. xs ++ other) (c.in_ok-push_word.ensures ∙ ap (λ xs. xs ++ word_line b w) c.loop-at.invariant) ∙ append_assoc (lines_to b k) (word_line b w) other ∙ sym (one_more b k w (ap (λ (v : Block). slice_get v.reads k) (sym c.block.view_is) ∙ ap (λ xs. slice_get xs k) (sym c.deref-read-items.ensures.value) ∙ got c.deref-read-items.result.now k w c.loop-at-test.true c.read-item.is))
