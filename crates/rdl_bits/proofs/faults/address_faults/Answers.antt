use Rattle.rdl_bits.proofs.Failed.{failed}
use Rattle.rdl_bits.proofs.faults.address_faults.Goals as goal

pub returns : goal.returns
returns c = failed c.args.props.now c.args.elab.now c.requires.clean c.requires.tree c.in_ok-registers.registers.items c.in_ok-registers.ensures c.in_ok-faults.faults.items c.deref.result.now c.deref.ensures.value c.in_ok-faults.ensures
