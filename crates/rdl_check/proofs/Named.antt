-- The name of the top.
use Rattle.std.proofs.Common.{◌≡◌, ℕ, List, [], ◌∷◌, map, sym, ap}
use Rattle.rdl_tree.specs.declared.node.Node.{Node, out-Node}
use Rattle.rdl_values.specs.Elaborated.{AreTreesOf, IsTreeOf, more, node, none}
use Rattle.rdl_values.specs.Instances.{Instance}

pub one-name : (beside : List Node) (at after : ℕ) (r : Node) (ns : List Instance) → AreTreesOf beside at (r ∷ []) ns after → map (λ (n : Instance). n.use_.name.text.now) ns ≡ (out-Node r).name.now ∷ []
one-name beside at after r _ (more (node id says below) none) = ap (λ t. t ∷ []) (sym says.name)
