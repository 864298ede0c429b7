use Rattle.std.proofs.Common.{◌≡◌, ◌<◌, ◌∙◌, ap, get_or, length, subst}
use Rattle.word_groups.specs.declared.entries.Entry.{Entry}
use Rattle.c_header.specs.Header.{part_text}
use Rattle.c_header.proofs.Numbered.{flat-step}
use Rattle.c_header.proofs.text.push_entry.Goals as goal

pub loop-part-preserved : goal.loop-part-preserved
loop-part-preserved c =
    let entry = c.args.entry.now in
    let i = c.loop-part.part-index in
    let part = c.part-item.result in
    let parts : c.deref-part-items.result.now ≡ entry.parts = c.deref-part-items.ensures.value ∙ ap (λ (e : Entry). e.parts) c.entry.view_is in
    flat-step (part_text c.args.begin.now c.args.parts.now entry) entry.parts i part c.push_word_macros.new.text.items c.loop-part.text.items c.push_part.new.text.items
    (subst (λ ps. i < length ps) parts c.loop-part-test.true) (c.part-item.is ∙ ap (λ ps. get_or ps i part) parts) c.loop-part.invariant c.in_ok-push_part.ensures
