use Rattle.rdl_values.proofs.Rows.{rows_by_number}
use Rattle.rdl_values.proofs.laws.rows_by_number.Goals as goal

pub returns : goal.returns
returns c = rows_by_number
