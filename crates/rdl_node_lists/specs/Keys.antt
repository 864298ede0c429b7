-- The keys of nodes, and their order.
use Rattle.std.specs.Prelude.{ℕ, List, [], filter, map}
use Rattle.std.specs.Cmp.Lexicographic.{slice_cmp}
use Rattle.std.specs.Ordering.{nat_cmp, ordering_then}
use Rattle.std.specs.declared.cmp.Ordering.{Ordering}
use Rattle.rdl_tree.specs.declared.node.Node.{out-Node}
use Rattle.rdl_nodes.specs.Keyed.{Key, same_key}
use Rattle.rdl_node_lists.specs.declared.held.By.{By}
use Rattle.rdl_node_lists.specs.declared.held.By.TheVariants as by
use Rattle.rdl_node_lists.specs.declared.held.Held.{Held}

-- bodies first, then names, then indices
abbrev pub key_cmp : Key → Key → Ordering
key_cmp j k = ordering_then (ordering_then (nat_cmp j.body k.body) (slice_cmp nat_cmp j.name k.name)) (slice_cmp nat_cmp j.index k.index)

-- the indices that count
abbrev pub index_by : By → Held → List ℕ
index_by by.Name h = []
index_by by.Element h = (out-Node h.node.now).index.now

-- the key of a node
abbrev pub key_of : By → Held → Key
key_of b h = record { body = h.body; name = (out-Node h.node.now).name.now; index = index_by b h }

-- the numbers of nodes
abbrev pub numbers : List Held → List ℕ
numbers hs = map (λ h. (out-Node h.node.now).id) hs

-- the nodes under a key, in order
abbrev pub held_under : By → List Held → Key → List ℕ
held_under b hs k = numbers (filter (λ h. same_key (key_of b h) k) hs)
