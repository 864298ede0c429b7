use Rattle.rdl_facts.proofs.Along.{IsLeft}
use Rattle.rdl_facts.proofs.table.EnumNumbers.greatest.Given as goal

abbrev pub invariant-loop-number : goal.invariant-loop-number
invariant-loop-number l = IsLeft l.self l.numbers l.name l.number-index
