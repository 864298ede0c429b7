use Rattle.v_parser.proofs.Fitting.{tree_fits}
use Rattle.v_parser.proofs.laws.tree_fits.Goals as goal

pub returns : goal.returns
returns c = tree_fits
