-- What the tree of nodes says: the instances of the source, with the numbers of their order.
use Rattle.std.specs.Prelude.{◌≡◌, ℕ, ◌+◌, min, List, [], ◌∷◌, length, bytes_eq, find, Option, Some, option_map, option_and_then, All, Contains, slice_get}
use Rattle.std.specs.Option.{option_copied}
use Rattle.rdl_tree.specs.declared.expr.Name.{Name}
use Rattle.rdl_tree.specs.declared.item.Source.{Source}
use Rattle.rdl_tree.specs.declared.node.Elab.{Elab}
use Rattle.rdl_tree.specs.declared.node.Node.{Node, out-Node}
use Rattle.rdl_tree.specs.Words.{IsWordName}
use Rattle.rdl_values.specs.Bodies.{Step, Path, of_signal, below_top, around}
use Rattle.rdl_values.specs.Instances.{Instance, body, kind_of, children, signals, top_of, nodes, most_nodes}
use Rattle.rdl_values.specs.Seen.{around_of}
use Rattle.rdl_values.specs.Values.{Around}

-- what the expressions in a node's body may name
abbrev pub around_body : Instance → Around
around_body n = (body n).names ∷ around n.closure.scope

-- the indices of an element: those of the last step of its path
abbrev pub last_index : List Step → List ℕ
last_index [] = []
last_index (s ∷ []) = s.index
last_index (s ∷ t ∷ ss) = last_index (t ∷ ss)

abbrev pub index_of : Path → List ℕ
index_of (of_signal s) = s.index
index_of (below_top ss) = last_index ss

-- the number of the node of this name
abbrev pub number_named : List Node → Name → Option ℕ
number_named rs n = option_map (λ r. (out-Node r).id) (find (λ r. bytes_eq (out-Node r).name.now n.text.now) rs)

-- A node, with those beside it in its body, says what an instance is. An alias says the number of its primary.
pub record Says (beside : List Node) (r : Node) (n : Instance) : Type 0 where
  pub name : (out-Node r).name.now ≡ n.use_.name.text.now
  pub index : (out-Node r).index.now ≡ index_of n.path
  pub kind : (out-Node r).kind ≡ kind_of n
  pub def : (out-Node r).def.now ≡ n.closure.def
  pub inst : option_copied (out-Node r).inst ≡ n.use_.inst
  pub alias : (out-Node r).alias ≡ option_and_then (number_named beside) n.use_.alias
  pub env : around_of (out-Node r).env.now ≡ around_body n
  pub place : (out-Node r).place ≡ n.use_.name.place

mutual
  -- A node of this number, with those beside it, and those below it are an instance and those below it. They are numbered in
  -- order, each before those in its body; the last number is that of the next node.
  pub data IsTreeOf : List Node → ℕ → Node → Instance → ℕ → Type 0 where
    node : {beside : List Node} {r : Node} {n : Instance} {at after : ℕ} → (out-Node r).id ≡ at → Says beside r n → AreTreesOf (out-Node r).children.now (at + 1) (out-Node r).children.now (children n) after
        → IsTreeOf beside at r n after

  -- so are some nodes of a body, one by one, from this number on
  pub data AreTreesOf : List Node → ℕ → List Node → List Instance → ℕ → Type 0 where
    none : {beside : List Node} {at : ℕ} → AreTreesOf beside at [] [] at
    more : {beside : List Node} {r : Node} {n : Instance} {rs : List Node} {ns : List Instance} {at next after : ℕ} → IsTreeOf beside at r n next → AreTreesOf beside next rs ns after → AreTreesOf beside at (r ∷ rs) (n ∷ ns) after

-- The tree of a source: its signals and its top are the source's, and a node's number is its position in the order of nodes.
pub record IsElab (wanted : Option (List ℕ)) (s : Source) (e : Elab) : Type 0 where
  pub source : e.source.now ≡ s
  pub between : ℕ
  pub signals_ : AreTreesOf e.signals.now 0 e.signals.now (signals s) between
  pub top : AreTreesOf [] between (e.top.now ∷ []) (top_of wanted s) e.count

-- The name of the top. It determines which definition is the top, where no other at the root has it.
abbrev pub top_name : Elab → List ℕ
top_name e = (out-Node e.top.now).name.now

-- the instances of a tree, by the source and the top's name
abbrev pub nodes_of : Elab → List Instance
nodes_of e = nodes (Some (top_name e)) e.source.now

-- A node of the tree, with those beside it in its body.
pub data IsNodeOf (e : Elab) : List Node → Node → Type 0 where
  signal : {r : Node} → Contains e.signals.now r → IsNodeOf e e.signals.now r
  top : IsNodeOf e [] e.top.now
  below : {beside : List Node} {p r : Node} → IsNodeOf e beside p → Contains (out-Node p).children.now r → IsNodeOf e (out-Node p).children.now r

-- The node says what the instance at its number is.
abbrev pub IsNumbered : Elab → List Node → Node → Type 0
IsNumbered e beside r = (n : Instance) × (slice_get (nodes_of e) (out-Node r).id ≡ Some n) × Says beside r n

-- the names of all instances are words
abbrev pub HasWords : Option (List ℕ) → Source → Type 0
HasWords wanted s = All (λ n. IsWordName n.use_.name) (nodes wanted s)

-- how many nodes a source has, counted no further than the first that is one too many
abbrev pub measured : Option (List ℕ) → Source → ℕ
measured wanted s = min (length (nodes wanted s)) (most_nodes + 1)
