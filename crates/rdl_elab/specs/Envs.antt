-- What is visible in open bodies.
use Rattle.std.specs.Prelude.{◌≡◌, ◌≤◌, ℕ, List, ◌∷◌, length, Option, Some, option_and_then, slice_get}
use Rattle.std.specs.Borrow.{Bor}
use Rattle.rdl_tree.specs.declared.value.Env.{Env}
use Rattle.rdl_values.specs.Seen.{around_of}
use Rattle.rdl_values.specs.Values.{Around}
use Rattle.rdl_bodies.specs.Sited.{HaveNames}
use Rattle.rdl_bodies.specs.declared.bodies.Body.{Body}

-- the environment of the nearest of the bodies round a text, by the numbers of the text's body and of those
abbrev pub round : List (Bor Env) → List ℕ → Option (Bor Env)
round envs numbers = option_and_then (λ k. slice_get envs k) (slice_get numbers 1)

-- They are the environments of the first bodies, each at the body's number.
pub record AreEnvs (bodies : List Body) (envs : List (Bor Env)) : Type 0 where
  pub few : length envs ≤ length bodies
  pub each : (k : ℕ) (e : Bor Env) (outer : List ℕ) (names : Around) → slice_get envs k ≡ Some e → HaveNames bodies (k ∷ outer) names → around_of e.now ≡ names
