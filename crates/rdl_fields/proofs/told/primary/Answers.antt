use Rattle.rdl_fields.proofs.Primaries.{told-by}
use Rattle.rdl_fields.proofs.told.primary.Goals as goal

pub returns : goal.returns
returns c = λ e k l clean at row. told-by e clean c.primaries_stand.ensures k c.args.row.now l at row
