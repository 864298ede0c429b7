use Rattle.rtl_net.proofs.ValuesFit.{edge_fits, run_fits}
use Rattle.rtl_net.proofs.laws.values_fit.Goals as goal

pub returns-clause-edge : goal.returns-clause-edge
returns-clause-edge c = edge_fits

pub returns-clause-run : goal.returns-clause-run
returns-clause-run c = run_fits
