use Rattle.rdl_layers.proofs.Formed.{never_reference, references_listed}
use Rattle.rdl_layers.proofs.laws.references_stand_where_taken.Goals as goal

pub returns-clause-only : goal.returns-clause-only
returns-clause-only c = never_reference

pub returns-clause-listed : goal.returns-clause-listed
returns-clause-listed c = references_listed
