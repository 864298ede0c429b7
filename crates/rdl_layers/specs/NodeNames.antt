-- What is visible in the body of each node of a tree, and in the root's.
use Rattle.std.specs.Prelude.{ℕ, List, [], ◌∷◌, Option, None, Some, slice_get, slice_index_or}
use Rattle.std.specs.Borrow.{Bor}
use Rattle.rdl_tree.specs.declared.node.Elab.{Elab}
use Rattle.rdl_values.specs.Chained.{chained}
use Rattle.rdl_values.specs.Elaborated.{around_body, nodes_of}
use Rattle.rdl_values.specs.Instances.{Instance, root}
use Rattle.rdl_values.specs.Values.{Around}
use Rattle.rdl_failures.specs.Shown.{IsAlike}
use Rattle.rdl_layers.specs.declared.names.NodeNames.{NodeNames}

-- the number of the body of a node, and of any other number the root's
abbrev pub body_of : NodeNames → ℕ → ℕ
body_of x k = slice_index_or x.bodies.items k 0

-- the numbers of a list, none where there is no list
abbrev pub numbers_or_none : Option (Bor (List ℕ)) → List ℕ
numbers_or_none None = []
numbers_or_none (Some ns) = ns.now

-- the numbers of the bodies that are seen in the body of this number, the nearest first
abbrev pub numbers_of : NodeNames → ℕ → List ℕ
numbers_of x b = numbers_or_none (slice_get x.numbers.items b)

-- the bodies that are seen in the body of a node, the nearest first
abbrev pub visible_at : NodeNames → ℕ → Around
visible_at x k = chained x.tables.items (numbers_of x (body_of x k))

-- what is visible in a body, where it is this node's, or the root's
abbrev pub around_if : Elab → Option Instance → Around
around_if e (Some n) = around_body n
around_if e None = (root e.source.now).names ∷ []

-- what the expressions in the body of a number may name: of a node, or at any other number of the root
abbrev pub around_at : Elab → ℕ → Around
around_at e k = around_if e (slice_get (nodes_of e) k)

-- In each body a name stands for what it does there.
abbrev pub AreNamesOf : Elab → NodeNames → Type 0
AreNamesOf e x = (k : ℕ) → IsAlike (visible_at x k) (around_at e k)
