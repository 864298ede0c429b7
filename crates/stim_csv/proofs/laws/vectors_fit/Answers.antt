use Rattle.stim_csv.proofs.Fitting.{vectors_fit}
use Rattle.stim_csv.proofs.laws.vectors_fit.Goals as goal

pub returns : goal.returns
returns c = vectors_fit
