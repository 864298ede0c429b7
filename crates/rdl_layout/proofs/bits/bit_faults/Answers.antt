use Rattle.std.proofs.Common.{◌∙◌}
use Rattle.rdl_layout.proofs.Fitting.{bits-fit}
use Rattle.rdl_layout.proofs.bits.bit_faults.Goals as goal

pub clashing-requires : goal.clashing-requires
clashing-requires c = bits-fit c.args.bits.now c.deref.result.now (c.deref.ensures.value ∙ c.in_ok-claims_of.ensures) c.requires
