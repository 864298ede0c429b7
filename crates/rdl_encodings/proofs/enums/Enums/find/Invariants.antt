use Rattle.rdl_encodings.proofs.Along.{IsLeft}
use Rattle.rdl_encodings.proofs.enums.Enums.find.Given as goal

abbrev pub invariant-loop-number : goal.invariant-loop-number
invariant-loop-number l = IsLeft l.self l.numbers l.name l.number-index
