use Rattle.std.proofs.Common.{ℕ, List, ◌++◌, flat_map, take}
use Rattle.rdl_tree.specs.declared.item.Entry.{Entry}
use Rattle.rdl_notes.specs.Entries.{enums_of}
use Rattle.rdl_notes.specs.Known.{AreKnown}
use Rattle.rdl_notes.proofs.entries.SourceEnums.+read.Given as goal

abbrev pub invariant-loop-inner : goal.invariant-loop-inner
invariant-loop-inner l = (es : List (ℕ × List Entry)) → AreKnown es l.fn.self → AreKnown (es ++ flat_map enums_of (take l.inner-index l.inner-items)) l.self
