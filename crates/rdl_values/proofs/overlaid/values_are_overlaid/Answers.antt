use Rattle.rdl_values.proofs.Touched.{overlaid_all}
use Rattle.rdl_values.proofs.overlaid.values_are_overlaid.Goals as goal

pub returns : goal.returns
returns c = overlaid_all
