use Rattle.std.proofs.Common.{◌≡◌, ◌++◌, flat_map, take}
use Rattle.c_header.specs.Header.{part_text}
use Rattle.c_header.proofs.text.push_entry.Given as goal

abbrev pub invariant-loop-part : goal.invariant-loop-part
invariant-loop-part l = l.text.items ≡ l.initial.text.items ++ flat_map (part_text l.begin l.parts l.entry) (take l.part-index l.entry.parts)
