use Rattle.std.proofs.Common.{◌≡◌, ◌++◌, flat_map, take}
use Rattle.c_header.specs.Header.{enumeration_text}
use Rattle.c_header.proofs.enumerations.push_each.Given as goal

abbrev pub invariant-loop-encoding : goal.invariant-loop-encoding
invariant-loop-encoding l = l.text.items ≡ l.initial.text.items ++ flat_map (enumeration_text l.block l.begin l.repeats) (take l.encoding-index l.list)
