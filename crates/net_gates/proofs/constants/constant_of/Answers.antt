use Rattle.net_gates.proofs.Always.{always_of, fits_of}
use Rattle.net_gates.proofs.constants.constant_of.Goals as goal

pub returns-clause-value : goal.returns-clause-value
returns-clause-value c = always_of c.args.net.now _ c.args.id _ _ c.nodes.ensures.value c.requires.0 c.index-nodes-id.is c.constant.ensures

pub returns-clause-fits : goal.returns-clause-fits
returns-clause-fits c = fits_of c.args.net.now _ c.args.id _ _ c.nodes.ensures.made c.nodes.ensures.value c.requires.0 c.index-nodes-id.is c.constant.ensures
