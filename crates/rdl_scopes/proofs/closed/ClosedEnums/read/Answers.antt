use Rattle.std.proofs.Common.{inl, refl}
use Rattle.rdl_scopes.proofs.closed.ClosedEnums.read.Goals as goal

pub returns-in_default : goal.returns-in_default
returns-in_default c = inl (refl, refl)
