use Rattle.std.proofs.Common.{◌≡◌, fold, take}
use Rattle.html_text.specs.Escaped as spec
use Rattle.html_text.proofs.escaped.is_utf8.Given as goal

abbrev pub invariant-loop-byte : goal.invariant-loop-byte
invariant-loop-byte l = l.state ≡ fold spec.behind_byte (spec.awaits 0 0 0) (take l.byte-index l.bytes)
