use Rattle.std.proofs.Common.{◌∙◌, ap}
use Rattle.html_text.proofs.Wrote.{of_bytes}
use Rattle.word_groups.specs.declared.entries.Entry.{Entry}
use Rattle.manual_sections.specs.Sections as spec
use Rattle.manual_sections.proofs.sections.put_entry_halves.Goals as goal

pub returns : goal.returns
returns g c =
    of_bytes (ap (λ w. spec.halves c.args.block.now w c.deref.result.now) c.bits_of.ensures ∙ ap (λ ps. spec.halves c.args.block.now (spec.bits_of c.args.entry.now) ps) (c.deref.ensures.value ∙ ap (λ (e : Entry). e.parts) c.entry.view_is)) c.put_halves.ensures
