use Rattle.std.proofs.Common.{◌≡◌, Option, Some, None, refl, ap}
use Rattle.std.specs.Prelude.{IsSome, is_some}
use Rattle.vcd_syntax.specs.declared.state.State.{State}
use Rattle.vcd_syntax.proofs.Stacks.{begins_leads, leads_begin, fits_leads, leads_fit}
use Rattle.vcd_syntax.proofs.laws.kinds_by_states.Goals as goal

there : (o : Option State) → IsSome o → (t : State) × (o ≡ Some t)
there (Some t) h = (t, refl)
there None h = cc

pub returns-clause-begin : goal.returns-clause-begin
returns-clause-begin c ks = ((λ b. ap is_some (begins_leads ks b).1), (λ h. let q = there _ h in leads_begin ks q.0 q.1))

pub returns-clause-fit : goal.returns-clause-fit
returns-clause-fit c ks = (fits_leads ks, leads_fit ks)
