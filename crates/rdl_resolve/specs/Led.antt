-- What steps lead to, by number.
use Rattle.std.specs.Prelude.{◌≡◌, ℕ, ◌<◌, Bool, List, [], ◌∷◌, filter, flat_map, Option, Some, option_and_then, option_map, option_to_list, slice_get, Vec}
use Rattle.std.specs.Global.{Global}
use Rattle.std.specs.Result.{result_ok}
use Rattle.rdl_tree.specs.declared.expr.Step.{Step}
use Rattle.rdl_tree.specs.declared.node.Elab.{Elab}
use Rattle.rdl_values.specs.Lineages.{Lineage, children_in, lineages_of}
use Rattle.rdl_values.specs.Values.{Around, Outcome}
use Rattle.rdl_layers.specs.Assignments.{is_step_exactly}

-- the numbers, where each has one
abbrev pub AreNumbers : Option (Vec ℕ Global) → Outcome (List ℕ) → Type 0
AreNumbers r o = option_map (λ v. v.items) r ≡ result_ok o

-- The node of this number, if there is one, is that of the list.
pub record IsLed (e : Elab) (o : Option ℕ) (ls : List Lineage) : Type 0 where
  pub node_ : option_to_list (option_and_then (slice_get (lineages_of e)) o) ≡ ls
  pub stands : (k : ℕ) → o ≡ Some k → k < e.count

abbrev pub is_exactly : Around → Step → Lineage → Bool
is_exactly env t l = is_step_exactly env t l.node

-- those that further steps lead to from here, each step by this test
abbrev pub further : (Step → Lineage → Bool) → List Lineage → List Step → List Lineage
further is ls [] = ls
further is ls (t ∷ ts) = further is (filter (is t) (flat_map children_in ls)) ts
