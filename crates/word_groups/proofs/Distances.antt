-- Distances, stride by stride.
use Rattle.std.proofs.Common.{◌≡◌, ℕ, ◌+◌, ◌-◌, ◌<◌, ◌≤◌, ◌==◌, false, arith}
use Rattle.std.proofs.lemmas.Bool.Decides.{nat_tests}

pub too_far : (left step rest : ℕ) → left < step → false ≡ (left == step + rest)
too_far left step rest far = grind (arith, nat_tests)

pub nearer : (left step rest : ℕ) → step ≤ left → (left - step == rest) ≡ (left == step + rest)
nearer left step rest near = grind (arith, nat_tests)
