use Rattle.std.proofs.Common.{◌∙◌}
use Rattle.rdl_layout.proofs.Fitting.{registers-fit}
use Rattle.rdl_layout.proofs.register.register_faults.Goals as goal

pub clashing-requires : goal.clashing-requires
clashing-requires c = registers-fit c.args.registers.now c.deref.result.now (c.deref.ensures.value ∙ c.in_ok-claims_of.ensures) c.requires
