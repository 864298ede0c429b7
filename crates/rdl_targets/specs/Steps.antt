-- Which indices a step of a target wants.
use Rattle.std.specs.Prelude.{◌≡◌, ◌≢◌, ℕ, Bool, List, [], ◌∷◌, filter, flat_map, Option, None, Some, option_map, Vec}
use Rattle.std.specs.Global.{Global}
use Rattle.std.specs.Result.{result_ok}
use Rattle.rdl_tree.specs.declared.expr.Expr.{Expr}
use Rattle.rdl_tree.specs.declared.expr.Step.{Step}
use Rattle.rdl_values.specs.Instances.{Instance, children}
use Rattle.rdl_values.specs.Uses.{values}
use Rattle.rdl_values.specs.Values.{Around, Outcome}
use Rattle.rdl_targets.specs.declared.matching.Wanted.{Wanted}
use Rattle.rdl_targets.specs.declared.matching.Wanted.TheVariants as wants

-- the numbers, where each has one
abbrev pub AreNumbers : Option (Vec ℕ Global) → Outcome (List ℕ) → Type 0
AreNumbers r o = option_map (λ v. v.items) r ≡ result_ok o

-- what a step with these indices wants
abbrev pub Wants : Wanted → Around → List Expr → Type 0
Wants wants.Any env es = es ≡ []
Wants wants.None env es = (es ≢ []) × (None ≡ result_ok (values env es))
Wants (wants.These ns) env es = (es ≢ []) × (Some ns.items ≡ result_ok (values env es))

-- those that further steps lead to from here, each step by this test
abbrev pub further : (Step → Instance → Bool) → List Instance → List Step → List Instance
further is ns [] = ns
further is ns (t ∷ ts) = further is (filter (is t) (flat_map children ns)) ts
