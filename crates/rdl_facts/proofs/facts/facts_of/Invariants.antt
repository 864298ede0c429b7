use Rattle.rdl_facts.proofs.Listed.{FactsTo}
use Rattle.rdl_facts.proofs.facts.facts_of.Given as goal

abbrev pub invariant-loop-at : goal.invariant-loop-at
invariant-loop-at l = FactsTo l.rows l.tree l.entries l.at l.facts.items
