-- What the rows of a tree say.
use Rattle.std.specs.Prelude.{◌≡◌, ℕ, suc, List, [], ◌∷◌, Option, None, Some, slice_get}
use Rattle.rdl_tree.specs.declared.node.Elab.{Elab}
use Rattle.rdl_tree.specs.declared.node.Node.{Node, out-Node}
use Rattle.rdl_values.specs.Elaborated.{IsNodeOf, Says}
use Rattle.rdl_values.specs.Instances.{Instance, children}
use Rattle.rdl_values.specs.Lineages.{Lineage, lineages_of}
use Rattle.rdl_nodes.specs.declared.table.Row.{Row}

-- these are the ancestors of a node that stands in the one of this number
abbrev pub IsParent : List Lineage → Option ℕ → List Instance → Type 0
IsParent all None ancestors = ancestors ≡ []
IsParent all (Some p) ancestors = (q : Lineage) × (slice_get all p ≡ Some q) × (ancestors ≡ q.node ∷ q.ancestors)

-- A node in the body of one, of which these are the nodes: it stands in the list at its number, and says what the instance is.
pub record IsInside (all : List Lineage) (ancestors : List Instance) (beside : List Node) (r : Node) (n : Instance) : Type 0 where
  pub here : slice_get all (out-Node r).id ≡ Some (record { node = n; ancestors = ancestors })
  pub says : Says beside r n

-- one by one
abbrev pub AreInside : List Lineage → List Instance → List Node → List Node → List Instance → Type 0
AreInside all ancestors beside [] [] = Unit {0}
AreInside all ancestors beside (r ∷ rs) (n ∷ ns) = IsInside all ancestors beside r n × AreInside all ancestors beside rs ns
AreInside all ancestors beside _ _ = ⊥

-- The row of a number: a node of the tree that says what the instance is, and the number of the node that it stands in.
pub record IsRow (e : Elab) (all : List Lineage) (k : ℕ) (x : Row) (n : Lineage) : Type 0 where
  pub number : (out-Node x.node.now).id ≡ k
  pub beside : List Node
  pub stands : IsNodeOf e beside x.node.now
  pub says : Says beside x.node.now n.node
  pub parent : IsParent all x.parent n.ancestors
  pub inside : AreInside all (n.node ∷ n.ancestors) (out-Node x.node.now).children.now (out-Node x.node.now).children.now (children n.node)

-- one by one, from this number on
abbrev pub AreRowsFrom : Elab → List Lineage → ℕ → List Row → List Lineage → Type 0
AreRowsFrom e all k [] [] = Unit {0}
AreRowsFrom e all k (x ∷ xs) (n ∷ ns) = IsRow e all k x n × AreRowsFrom e all (suc k) xs ns
AreRowsFrom e all k _ _ = ⊥

-- the rows are those of all nodes, with their ancestors
abbrev pub AreRows : Elab → List Row → Type 0
AreRows e rows = AreRowsFrom e (lineages_of e) 0 rows (lineages_of e)
