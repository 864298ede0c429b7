use Rattle.std.proofs.Common.{flat_map, take}
use Rattle.rdl_notes.specs.Entries.{enums_of}
use Rattle.rdl_notes.specs.Known.{AreKnown}
use Rattle.rdl_notes.proofs.entries.SourceEnums.of.Given as goal

abbrev pub invariant-loop-item : goal.invariant-loop-item
invariant-loop-item l = AreKnown (flat_map enums_of (take l.item-index l.items)) l.enums
