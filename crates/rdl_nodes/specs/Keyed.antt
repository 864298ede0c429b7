-- Nodes under bodies, names and indices.
use Rattle.std.specs.Prelude.{ℕ, Bool, ◌&&◌, ◌==◌, List, [], Option, None, Some, Vec, bytes_eq, slice_get}
use Rattle.std.specs.BTreeMap.{get, get_by}
use Rattle.std.specs.Cmp.Lexicographic.{slice_cmp}
use Rattle.std.specs.Global.{Global}
use Rattle.std.specs.Ordering.{nat_cmp}
use Rattle.rdl_nodes.specs.declared.by_body.ByBody.{ByBody}
use Rattle.rdl_nodes.specs.declared.by_name.ByName.{ByName}
use Rattle.rdl_nodes.specs.declared.node_index.NodeIndex.{NodeIndex}

-- The number of a body, a name and indices.
pub record Key : Type 0 where
  pub body : ℕ
  pub name : List ℕ
  pub index : List ℕ

abbrev pub same_key : Key → Key → Bool
same_key j k = j.body == k.body && bytes_eq j.name k.name && bytes_eq j.index k.index

abbrev pub listed : Option (Vec ℕ Global) → List ℕ
listed None = []
listed (Some v) = v.items

-- the nodes under a name
abbrev pub named : ByName → List ℕ → List ℕ
named t name = listed (get_by (λ x. slice_cmp nat_cmp name x.now) t.nodes)

abbrev pub named_in : Option ByName → List ℕ → List ℕ
named_in None name = []
named_in (Some t) name = named t name

-- the nodes under a body and a name
abbrev pub in_body : ByBody → ℕ → List ℕ → List ℕ
in_body t body name = named_in (get nat_cmp t.names body) name

abbrev pub found_in : Option ByBody → ℕ → List ℕ → List ℕ
found_in None body name = []
found_in (Some t) body name = in_body t body name

-- the nodes under a key
abbrev pub nodes_under : NodeIndex → Key → List ℕ
nodes_under t k = found_in (get_by (λ x. slice_cmp nat_cmp k.index x.now) t.bodies) k.body k.name

-- the first of them
abbrev pub first_under : NodeIndex → Key → Option ℕ
first_under t k = slice_get (nodes_under t k) 0
