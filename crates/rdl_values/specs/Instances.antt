-- The instances of a source: a list of nodes in order.
use Rattle.std.specs.Prelude.{ℕ, zero, suc, cond, List, [], ◌∷◌, ◌++◌, map, flat_map, take, Option, Some, option_to_list, Ok}
use Rattle.rdl_tree.specs.declared.item.Kind.{Kind}
use Rattle.rdl_tree.specs.declared.item.Source.{Source}
use Rattle.rdl_values.specs.Bodies.{Path, Closure, around, Body}
use Rattle.rdl_values.specs.Enums.{names_of}
use Rattle.rdl_values.specs.NoNode.{no_node}
use Rattle.rdl_values.specs.Parameters.{Bound, bound_of}
use Rattle.rdl_values.specs.Parts.{dims_of}
use Rattle.rdl_values.specs.Paths.{path_in}
use Rattle.rdl_values.specs.Top.{root, top_seen, top_use_of}
use Rattle.rdl_values.specs.Uses.{Use, Seen}
use Rattle.rdl_values.specs.Values.{Outcome}
pub use Rattle.rdl_values.specs.NoNode.{most_names}
pub use Rattle.rdl_values.specs.Parts.{is_empty}
pub use Rattle.rdl_values.specs.Top.{root, top_seen, top_use_of}
pub use Rattle.rdl_values.specs.Uses.{seen}

-- A node of the instance tree, and the bodies of the nodes that it stands in, the top's first.
pub record Instance : Type 0 where
  pub above : List Body
  pub path : Path
  pub use_ : Use
  pub closure : Closure
  pub bound : Bound

abbrev pub kind_of : Instance → Kind
kind_of n = n.closure.def.kind

-- its body: that of its definition, under the values of its parameters
abbrev pub body : Instance → Body
body n = record { node = Some n.path; kind = Some (kind_of n); items = n.closure.def.items.now; names = names_of (around n.closure.scope) n.bound n.closure.def.items.now; outer = n.closure.scope }

-- the numbers below this one
abbrev pub upto : ℕ → List ℕ
upto zero = []
upto (suc n) = upto n ++ (n ∷ [])

-- the indices of all elements of an array, the last index fastest
abbrev pub rows : List ℕ → List (List ℕ)
rows [] = [] ∷ []
rows (d ∷ ds) = flat_map (λ i. map (λ is. i ∷ is) (rows ds)) (upto d)

-- the elements of a use of this definition, where its parameters and its dimensions have values
abbrev pub elements : Seen → Closure → Outcome Bound → Outcome (List ℕ) → List Instance
elements s c (Ok bound) (Ok dims) = map (λ is. record { above = s.above; path = path_in s.parent (record { name = s.use_.name.text.now; index = is }); use_ = s.use_; closure = c; bound = bound }) (rows dims)
elements s c _ _ = []

-- the nodes that a use gives
abbrev pub given_by : Seen → List Instance
given_by s = cond (is_empty (no_node s)) (flat_map (λ c. elements s c (bound_of s.use_ c) (dims_of s.use_ c.def.kind)) (option_to_list s.use_.closure)) []

-- the uses in the body of a node
abbrev pub seen_in : Instance → List Seen
seen_in n = seen (n.above ++ (body n ∷ [])) (body n)

-- the nodes in the body of a node, in text order
abbrev pub children : Instance → List Instance
children n = flat_map given_by (seen_in n)

-- the signals at the root
abbrev pub signals : Source → List Instance
signals s = flat_map given_by (seen [] (root s))

-- the top, in a list of one, or none
abbrev pub top_of : Option (List ℕ) → Source → List Instance
top_of wanted s = flat_map (λ u. given_by (top_seen u)) (option_to_list (top_use_of wanted s))

-- a node and so many levels below it, each node before those in its body
abbrev pub with_below : ℕ → Instance → List Instance
with_below zero n = n ∷ []
with_below (suc k) n = n ∷ flat_map (with_below k) (children n)

-- All nodes in order: the root's signals, then the top and what is below it. As no path has more than 32 names (E8), 32
-- levels are all. A node's number is its position here, which is the count of paths before its own. The list may be of any
-- length: `q[2**40]` has that many nodes, which no program lists.
unfoldable pub nodes : Option (List ℕ) → Source → List Instance
nodes wanted s = signals s ++ flat_map (with_below most_names) (top_of wanted s)

-- The nodes that are judged: the first 65,536. Where there is one more, E9 fails.
abbrev pub most_nodes : ℕ
most_nodes = 65536

abbrev pub judged_nodes : Option (List ℕ) → Source → List Instance
judged_nodes wanted s = take most_nodes (nodes wanted s)
