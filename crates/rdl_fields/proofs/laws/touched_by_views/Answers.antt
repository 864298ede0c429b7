use Rattle.rdl_fields.proofs.Viewed.{touched-by}
use Rattle.rdl_fields.proofs.laws.touched_by_views.Goals as goal

pub returns : goal.returns
returns c = touched-by
