-- Bits, from the highest down.
use Rattle.std.proofs.Common.{zero, suc, ◌≡◌, ℕ, ◌+◌, ◌-◌, ◌<◌, List, ◌++◌, flat_map, ap, arith}
use Rattle.manual_sections.specs.Sections.{down}

pub down_step : (f : ℕ → List ℕ) (base n : ℕ) → 0 < n → flat_map f (down base n) ≡ f (base + (n - 1)) ++ flat_map f (down base (n - 1))
down_step f base zero l = absurd (omega (arith, l))
down_step f base (suc n) l = let e : n ≡ suc n - 1 = omega arith in ap (λ m. f (base + m) ++ flat_map f (down base m)) e
