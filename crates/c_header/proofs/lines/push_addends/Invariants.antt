use Rattle.std.proofs.Common.{◌≡◌, ◌++◌, take}
use Rattle.c_header.specs.Header.{addends}
use Rattle.c_header.proofs.lines.push_addends.Given as goal

abbrev pub invariant-loop-place : goal.invariant-loop-place
invariant-loop-place l = l.text.items ≡ l.initial.text.items ++ addends (take l.place l.strides)
