use Rattle.std.proofs.Common.{◌∙◌, ap, map}
use Rattle.rdl_notes.specs.Entries.{entries_said}
use Rattle.rdl_notes.proofs.entries.entry_notes.Goals as goal

pub returns : goal.returns
returns c = c.in_ok-list.ensures c.args.source.now c.in_ok-enums.ensures ∙ ap (map (λ e. entries_said c.args.source.now e.place)) (c.deref.ensures.value ∙ ap (λ e. e.list) c.encodings.view_is)
