use Rattle.std.proofs.Common.{◌≡◌, take}
use Rattle.kept_texts.proofs.enumerations.keep_all.Given as goal

abbrev pub invariant-loop-encoding : goal.invariant-loop-encoding
invariant-loop-encoding l = l.list.items ≡ take l.encoding-index l.encodings
