-- Simulations of a module with one register.
use Rattle.std.proofs.Common.{◌≡◌, ℕ, List, [], ◌∷◌, length, get_or, replicate, refl, arith}
use Rattle.std.proofs.lemmas.Nat.{pow_pos}
use Rattle.rb_base.specs.declared.ports.Pin.{Pin}
use Rattle.v_design.specs.Expr.{Values}
use Rattle.v_design.specs.Design.{Module, inputs, registers}
use Rattle.v_design.specs.Run.{values_at}
use Rattle.v_design.specs.Fits.{FitsPins}
use Rattle.cyc_sim.specs.Simulation.{IsEngineOf, IsSimOf, StepsTo, held, held_in}
use Rattle.cyc_sim.specs.declared.sim.Engine.{Engine}
use Rattle.cyc_sim.specs.declared.sim.Engine.TheVariants.{Wide, Narrow}
use Rattle.cyc_sim.specs.declared.sim.Sim.{Sim}
use Rattle.tests_cases.specs.Going.{Goes}

-- zeros fit all pins
pub zeros_fit : (ps : List Pin) → FitsPins ps (replicate (length ps) 0)
zeros_fit [] = tt
zeros_fit (p ∷ ps) = (pow_pos p.width, zeros_fit ps)

-- one number is what one pin has
known : (ps : List Pin) (xs : List ℕ) → FitsPins ps xs → length ps ≡ 1 → values_at (λ _. get_or xs 0 0) ps ≡ xs
known [] xs f l = absurd (omega (arith, l))
known (p ∷ []) [] f l = absurd f
known (p ∷ []) (x ∷ []) f l = refl
known (p ∷ []) (x ∷ y ∷ xs) f l = absurd f.1
known (p ∷ q ∷ ps) xs f l = absurd (omega (arith, l))

-- the contents of a simulation fit their registers
held_fits : (m : Module) (e : Engine) → IsEngineOf m e → FitsPins (registers m) (held_in e)
held_fits m (Wide s) is = is.fits
held_fits m (Narrow s) is = is.fits

pub goes : (m : Module) (s : Sim) → IsSimOf m s → length (registers m) ≡ 1 → Goes m s
unfolding held
goes m s is one = record { is_sim = is; contents = λ _. get_or (held s) 0 0; kept = known (registers m) (held s) (held_fits m s.engine is.engine) one }

-- after an edge it goes on
pub goes_on : (m : Module) (s t : Sim) (pins outs : List ℕ) → FitsPins (inputs m) pins → Goes m s
    → ((n : Module) → IsSimOf n s → FitsPins (inputs n) pins → (contents : Values) → values_at contents (registers n) ≡ held s → StepsTo n contents pins outs (held t) × IsSimOf n t)
    → Goes m t
goes_on m s t pins outs fit g step =
    let next = step m g.is_sim fit g.contents g.kept in
    record { is_sim = next.1; contents = next.0.after; kept = next.0.kept }
