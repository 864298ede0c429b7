use Rattle.rdl_assignments.proofs.meaning.meaning_of.Goals as goal

pub returns-in-Some-clause-stands : goal.returns-in-Some-clause-stands
returns-in-Some-clause-stands c = c.trigger_in.ensures.stands c.args.body
