-- Rule E9 fails exactly where the count of nodes goes past those that are judged.
use Rattle.std.proofs.Common.{◌≡◌, ◌≢◌, ℕ, zero, suc, ◌≤◌, ◌<◌, List, [], ◌∷◌, length, drop, Option, refl, subst, arith}
use Rattle.rdl_base.specs.declared.fault.Fault.{Fault}
use Rattle.rdl_tree.specs.declared.item.Source.{Source}
use Rattle.rdl_values.specs.Elaborated.{measured}
use Rattle.rdl_values.specs.Instances.{Instance, nodes, most_nodes}
use Rattle.rdl_values.specs.Phase3.{first_over, too_many_nodes}

-- no node stands behind the first k where there are no more

none_over : (k : ℕ) (ns : List Instance) → length ns ≤ k → first_over (drop k ns) ≡ []
none_over zero [] h = refl
none_over (suc k) [] h = refl
none_over zero (n ∷ ns) h = absurd (omega (arith, h))
none_over (suc k) (n ∷ ns) h = none_over k ns (omega (arith, h))

-- else one does

abbrev IsNonEmpty : List Fault → Type 0
IsNonEmpty [] = ⊥
IsNonEmpty (f ∷ fs) = Unit {0}

one_over : (k : ℕ) (ns : List Instance) → k < length ns → IsNonEmpty (first_over (drop k ns))
one_over zero [] h = absurd (omega (arith, h))
one_over (suc k) [] h = absurd (omega (arith, h))
one_over zero (n ∷ ns) h = tt
one_over (suc k) (n ∷ ns) h = one_over k ns (omega (arith, h))

pub measured-few : (wanted : Option (List ℕ)) (s : Source) → measured wanted s ≤ most_nodes → too_many_nodes wanted s ≡ []
measured-few wanted s h = none_over most_nodes (nodes wanted s) (grind (arith, h))

pub measured-many : (wanted : Option (List ℕ)) (s : Source) → most_nodes < measured wanted s → too_many_nodes wanted s ≢ []
measured-many wanted s h = λ e. subst IsNonEmpty e (one_over most_nodes (nodes wanted s) (grind (arith, h)))
