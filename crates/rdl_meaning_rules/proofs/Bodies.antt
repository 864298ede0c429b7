-- The nodes in a body, one by one.
use Rattle.std.proofs.Common.{◌≡◌, ◌∙◌, ℕ, ◌+◌, ◌<◌, ◌≤◌, Bool, true, false, ◌||◌, List, [], ◌∷◌, length, get_or, take, slice_get, Some, sym, ap, subst, arith}
use Rattle.std.specs.List.{list_any}
use Rattle.std.proofs.lemmas.List.{take_all}
use Rattle.std.proofs.lemmas.List.Folds.{list_any_at, list_any_more}
use Rattle.rdl_tree.specs.declared.node.Node.{Node, out-Node}
use Rattle.rdl_values.specs.Instances.{Instance}
use Rattle.rdl_values.specs.Lineages.{Lineage}
use Rattle.rdl_nodes.specs.Rows.{AreInside}
use Rattle.rdl_nodes.proofs.Members.{get-read, get-within}
use Rattle.rdl_sizes.proofs.Turns.{as-many, inside-at, read-at}
use Rattle.rdl_meaning_rules.specs.Filled.{filled_at}

module _ (all : List Lineage) (up ns : List Instance) (p : Instance → Bool) (rs : List Node) (h : AreInside all up rs rs ns) (t : List Bool) (known : (k : ℕ) (c : Instance) → slice_get all k ≡ Some (record { node = c; ancestors = up }) → filled_at t k ≡ p c) where
  pub one-is : (i : ℕ) (r : Node) → i < length rs → r ≡ get_or rs i r → filled_at t (out-Node r).id ≡ true → true ≡ list_any p ns
  one-is i r low is q =
      let m = inside-at all up rs rs ns h i r (read-at rs i r low is) in
      sym (list_any_at p ns i m.0 (get-within ns i m.0 m.1) (ap p (get-read ns i m.0 m.0 m.1) ∙ (sym (known (out-Node r).id m.0 m.2.here) ∙ q)))

  pub none-so-far : (i : ℕ) (r : Node) → i < length rs → r ≡ get_or rs i r → filled_at t (out-Node r).id ≡ false → list_any p (take i ns) ≡ false → list_any p (take (i + 1) ns) ≡ false
  none-so-far i r low is q before =
      let m = inside-at all up rs rs ns h i r (read-at rs i r low is) in
      list_any_more p ns i m.0 (get-within ns i m.0 m.1) ∙ (λ j. before j || (ap p (get-read ns i m.0 m.0 m.1) ∙ (sym (known (out-Node r).id m.0 m.2.here) ∙ q)) j)

  pub none-is : (i : ℕ) → length rs ≤ i → list_any p (take i ns) ≡ false → false ≡ list_any p ns
  none-is i past before = let many = as-many all up rs rs ns h in sym before ∙ ap (list_any p) (take_all i ns (omega (arith, many, past)))
