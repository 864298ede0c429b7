use Rattle.std.proofs.Common.{◌≡◌, ◌++◌, take}
use Rattle.c_header.specs.Names.{spelled}
use Rattle.c_header.proofs.names.push_spelled.Given as goal

abbrev pub invariant-loop-byte : goal.invariant-loop-byte
invariant-loop-byte l = l.text.items ≡ l.initial.text.items ++ spelled (take l.byte-index l.path)
