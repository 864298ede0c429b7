-- A count of nodes that goes one past those that are judged.
use Rattle.std.proofs.Common.{◌≡◌, ◌≢◌, ℕ, ◌+◌, ◌<◌, ◌≤◌, Bool, true, false, nat_lt, List, [], length, Option, refl, arith}
use Rattle.std.proofs.Math.Nat.{min-le_right}
use Rattle.std.proofs.lemmas.Bool.{ltb-false, ltb-true}
use Rattle.rdl_tree.specs.declared.item.Source.{Source}
use Rattle.rdl_values.specs.Elaborated.{measured}
use Rattle.rdl_values.specs.Instances.{most_nodes, nodes}
use Rattle.rdl_values.specs.Phase3.{too_many_nodes}
use Rattle.rdl_elab.specs.Answers.{Measures}

pub measures : (w : Option (List ℕ)) (s : Source) (n : ℕ) → (measured w s ≤ most_nodes → too_many_nodes w s ≡ []) → (most_nodes < measured w s → too_many_nodes w s ≢ []) → n ≡ measured w s → Measures w s n
measures w s n few many e = record { counted = e; too_many = (over, back) }
  where
    over : n ≡ most_nodes + 1 → too_many_nodes w s ≢ []
    over k = many (omega (arith, e, k))

    back : too_many_nodes w s ≢ [] → n ≡ most_nodes + 1
    back h = go (nat_lt most_nodes n) refl
      where
        go : (b : Bool) → nat_lt most_nodes n ≡ b → n ≡ most_nodes + 1
        go true q = let l = ltb-true most_nodes n q in let r = min-le_right (length (nodes w s)) (most_nodes + 1) in omega (arith, l, r, e)
        go false q = let l = ltb-false most_nodes n q in absurd (h (few (omega (arith, l, e))))
