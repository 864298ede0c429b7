-- The rows of a node and of those below it.
use Rattle.std.specs.Prelude.{◌≡◌, ℕ, List, [], ◌∷◌, ◌++◌, Option, Some}
use Rattle.rdl_tree.specs.declared.node.Node.{Node, out-Node}
use Rattle.rdl_nodes.specs.declared.table.Row.{Row}

mutual
  -- The rows are the node, which stands in this one, and then those of the nodes in it.
  pub data IsBelow : Option ℕ → Node → List Row → Type 0 where
    row : {parent : Option ℕ} {r : Node} {x : Row} {rows : List Row} → x.node.now ≡ r → x.parent ≡ parent → AreBelow (Some (out-Node r).id) (out-Node r).children.now rows → IsBelow parent r (x ∷ rows)

  -- So are they of some nodes, one by one.
  pub data AreBelow : Option ℕ → List Node → List Row → Type 0 where
    no_rows : {parent : Option ℕ} → AreBelow parent [] []
    more_rows : {parent : Option ℕ} {r : Node} {rs : List Node} {xs ys : List Row} → IsBelow parent r xs → AreBelow parent rs ys → AreBelow parent (r ∷ rs) (xs ++ ys)
