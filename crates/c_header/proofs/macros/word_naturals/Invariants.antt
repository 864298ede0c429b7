use Rattle.std.proofs.Common.{◌≡◌, take}
use Rattle.c_header.specs.Macros.{word_naturals}
use Rattle.c_header.proofs.macros.word_naturals.Given as goal

abbrev pub invariant-loop-entry : goal.invariant-loop-entry
invariant-loop-entry l = l.names.items ≡ word_naturals l.begin (take l.entry-index l.entries)
