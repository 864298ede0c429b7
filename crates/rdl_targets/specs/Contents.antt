-- The nodes in the bodies of nodes, by their names and indices.
use Rattle.std.specs.Prelude.{◌≡◌, ℕ, Bool, false, ◌&&◌, List, [], ◌++◌, bytes_eq, filter, map}
use Rattle.rdl_tree.specs.declared.node.Elab.{Elab}
use Rattle.rdl_tree.specs.declared.node.Node.{Node, out-Node}
use Rattle.rdl_values.specs.Elaborated.{index_of}
use Rattle.rdl_values.specs.Instances.{Instance, children}
use Rattle.rdl_values.specs.Lineages.{lineages_of}
use Rattle.rdl_nodes.specs.Keyed.{Key, same_key}
use Rattle.rdl_node_lists.specs.Keys.{held_under}
use Rattle.rdl_node_lists.specs.Listed.{listed_under}
use Rattle.rdl_node_lists.specs.declared.held.By.TheVariants as by
use Rattle.rdl_node_lists.specs.declared.held.Held.{Held}
use Rattle.rdl_targets.specs.At.{AreAt, IsAt, id_of}
use Rattle.rdl_targets.specs.declared.contents.Contents.{Contents}
use Rattle.rdl_targets.specs.declared.matching.Wanted.{Wanted}
use Rattle.rdl_targets.specs.declared.matching.Wanted.TheVariants as wants

abbrev pub is_named : List ℕ → Instance → Bool
is_named name n = bytes_eq name n.use_.name.text.now

abbrev pub is_element : List ℕ → List ℕ → Instance → Bool
is_element name index n = is_named name n && bytes_eq index (index_of n.path)

-- the instance has the name, and the indices that are wanted
abbrev pub passes : Wanted → List ℕ → Instance → Bool
passes wants.Any name = is_named name
passes wants.None name = λ n. false
passes (wants.These v) name = is_element name v.items

-- a node in a body, without its indices and with them
abbrev pub name_key : ℕ → Node → Key
name_key b r = record { body = b; name = (out-Node r).name.now; index = [] }

abbrev pub element_key : ℕ → Node → Key
element_key b r = record { body = b; name = (out-Node r).name.now; index = (out-Node r).index.now }

-- the numbers of those of some nodes in a body that are under a key
abbrev pub under : (ℕ → Node → Key) → Key → ℕ → List Node → List ℕ
under key k b rs = map id_of (filter (λ r. same_key (key b r) k) rs)

-- those in a body that have a name and the indices that are wanted
abbrev pub found_wanted : Contents → ℕ → List ℕ → Wanted → List ℕ
found_wanted c b name wants.Any = listed_under c.names (record { body = b; name = name; index = [] })
found_wanted c b name wants.None = []
found_wanted c b name (wants.These v) = listed_under c.elements (record { body = b; name = name; index = v.items })

-- Nodes are put into the body of this number.
pub record AddsNodes (b : ℕ) (rs : List Node) (old new : List Held) : Type 0 where
  pub names_ : (k : Key) → held_under by.Name new k ≡ held_under by.Name old k ++ under name_key k b rs
  pub elements_ : (k : Key) → held_under by.Element new k ≡ held_under by.Element old k ++ under element_key k b rs

-- The nodes in each body by their names, and by their names and indices.
pub record AreContents (e : Elab) (c : Contents) : Type 0 where
  pub named : (k : ℕ) (n : Instance) (name : List ℕ) → IsAt (lineages_of e) k n → AreAt (lineages_of e) (listed_under c.names (record { body = k; name = name; index = [] })) (filter (is_named name) (children n))
  pub indexed : (k : ℕ) (n : Instance) (name index : List ℕ) → IsAt (lineages_of e) k n → AreAt (lineages_of e) (listed_under c.elements (record { body = k; name = name; index = index })) (filter (is_element name index) (children n))
