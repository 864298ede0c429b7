use Rattle.rdl_nodes.proofs.Numbered.{within, found, once, rows}
use Rattle.rdl_nodes.proofs.laws.row_has_one_number.Goals as goal

pub returns-clause-within : goal.returns-clause-within
returns-clause-within c = within

pub returns-clause-found : goal.returns-clause-found
returns-clause-found c = found

pub returns-clause-once : goal.returns-clause-once
returns-clause-once c = once

pub returns-clause-fits : goal.returns-clause-fits
returns-clause-fits c = rows
