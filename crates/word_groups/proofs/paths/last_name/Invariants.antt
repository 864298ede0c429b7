use Rattle.std.proofs.Common.{◌≡◌, [], fold, take}
use Rattle.word_groups.specs.Paths.{name_with}
use Rattle.word_groups.proofs.paths.last_name.Given as goal

abbrev pub invariant-loop-byte : goal.invariant-loop-byte
invariant-loop-byte l = l.bytes.items ≡ fold name_with [] (take l.byte-index l.path)
