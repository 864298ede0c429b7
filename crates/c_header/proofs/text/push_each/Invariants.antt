use Rattle.std.proofs.Common.{◌≡◌, ◌++◌, flat_map, take}
use Rattle.c_header.specs.Header.{entry_text}
use Rattle.c_header.proofs.text.push_each.Given as goal

abbrev pub invariant-loop-entry : goal.invariant-loop-entry
invariant-loop-entry l = l.text.items ≡ l.initial.text.items ++ flat_map (entry_text l.begin l.words l.parts) (take l.entry-index l.entries)
