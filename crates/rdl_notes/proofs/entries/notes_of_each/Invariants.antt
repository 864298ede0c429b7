use Rattle.std.proofs.Common.{◌≡◌, flat_map, map, take}
use Rattle.rdl_tree.specs.declared.item.Source.{Source}
use Rattle.rdl_notes.specs.Entries.{entries_said, enums_of}
use Rattle.rdl_notes.specs.Known.{AreKnown}
use Rattle.rdl_notes.proofs.entries.notes_of_each.Given as goal

abbrev pub invariant-loop-encoding : goal.invariant-loop-encoding
invariant-loop-encoding l = (s : Source) → AreKnown (flat_map enums_of s.items.now) l.enums → map (λ v. v.items) l.list.items ≡ map (λ e. entries_said s e.place) (take l.encoding-index l.encodings)
