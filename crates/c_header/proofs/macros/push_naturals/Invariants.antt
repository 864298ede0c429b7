use Rattle.std.proofs.Common.{◌≡◌, ◌++◌, map, take}
use Rattle.c_header.specs.Macros.{part_path}
use Rattle.c_header.specs.Names.{natural}
use Rattle.c_header.proofs.macros.push_naturals.Given as goal

abbrev pub invariant-loop-part : goal.invariant-loop-part
invariant-loop-part l = l.into.items ≡ l.initial.into.items ++ map (λ p. natural l.begin (part_path l.entry p)) (take l.part-index l.entry.parts)
