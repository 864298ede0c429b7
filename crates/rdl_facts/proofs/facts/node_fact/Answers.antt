use Rattle.std.proofs.Common.{sym}
use Rattle.plain_lemmas.proofs.Results.{if_ok-map as if_ok}
use Rattle.rdl_facts.proofs.Unit.{of_text}
use Rattle.rdl_facts.proofs.facts.node_fact.Goals as goal

pub returns-clause-fact : goal.returns-clause-fact
returns-clause-fact c =
    if_ok c.unit_fact.result _ _ (λ fact h e n beside told says unit low. h e n told (sym says.kind) (of_text beside c.args.node.now n says told.spot.parts c.in-Some.inst c.in-Some.is) low)
    c.unit_fact.ensures.fact
