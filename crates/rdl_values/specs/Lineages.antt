-- The nodes of a source, each with the nodes that it stands in.
use Rattle.std.specs.Prelude.{ℕ, zero, suc, List, [], ◌∷◌, ◌++◌, map, flat_map, Option, Some}
use Rattle.rdl_tree.specs.declared.item.Source.{Source}
use Rattle.rdl_tree.specs.declared.node.Elab.{Elab}
use Rattle.rdl_values.specs.Elaborated.{top_name}
use Rattle.rdl_values.specs.Instances.{Instance, children, signals, top_of, most_names}

-- A node with its ancestors: the nodes that it stands in, the nearest first.
pub record Lineage : Type 0 where
  pub node : Instance
  pub ancestors : List Instance

-- a node that stands in no other
abbrev pub alone : Instance → Lineage
alone n = record { node = n; ancestors = [] }

-- a node in the body of this one
abbrev pub child_of : Lineage → Instance → Lineage
child_of n c = record { node = c; ancestors = n.node ∷ n.ancestors }

-- the nodes in the body of a node, in text order
abbrev pub children_in : Lineage → List Lineage
children_in n = map (child_of n) (children n.node)

-- a node of these ancestors and so many levels below it, each node before those in its body
abbrev pub lineages_below : ℕ → List Instance → Instance → List Lineage
lineages_below zero ancestors n = record { node = n; ancestors = ancestors } ∷ []
lineages_below (suc k) ancestors n = record { node = n; ancestors = ancestors } ∷ flat_map (lineages_below k (n ∷ ancestors)) (children n)

-- all nodes in order, as `nodes` lists them
unfoldable pub lineages : Option (List ℕ) → Source → List Lineage
lineages wanted s = map alone (signals s) ++ flat_map (lineages_below most_names []) (top_of wanted s)

-- the nodes of a tree, by the source and the top's name
abbrev pub lineages_of : Elab → List Lineage
lineages_of e = lineages (Some (top_name e)) e.source.now

-- the nodes alone
abbrev pub nodes_in : List Lineage → List Instance
nodes_in all = map (λ n. n.node) all
