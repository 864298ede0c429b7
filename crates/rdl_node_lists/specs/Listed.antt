-- The nodes of a list under a key.
use Rattle.std.specs.Prelude.{ℕ, List, Option, slice_get}
use Rattle.rdl_nodes.specs.Keyed.{Key}
use Rattle.rdl_node_lists.specs.Keys.{held_under}
use Rattle.rdl_node_lists.specs.declared.node_list.NodeList.{NodeList}

-- in the order in which they were given
abbrev pub listed_under : NodeList → Key → List ℕ
listed_under t k = held_under t.by t.held.items k

-- the first of them
abbrev pub first_listed : NodeList → Key → Option ℕ
first_listed t k = slice_get (listed_under t k) 0
