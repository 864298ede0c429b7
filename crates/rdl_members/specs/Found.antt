-- The nodes in a body, by name and indices.
use Rattle.std.specs.Prelude.{◌≡◌, ℕ, ◌≤◌, ◌<◌, Bool, ◌&&◌, List, [], length, filter, Some, bytes_eq, is_some, option_and_then, option_map, option_to_list, slice_get}
use Rattle.std.specs.List.{list_any}
use Rattle.rdl_tree.specs.declared.node.Elab.{Elab}
use Rattle.rdl_values.specs.Elaborated.{index_of}
use Rattle.rdl_values.specs.Instances.{Instance}
use Rattle.rdl_values.specs.Lineages.{Lineage, lineages_of}
use Rattle.rdl_refs.specs.Leads.{members_of}
use Rattle.rdl_node_lists.specs.Listed.{first_listed}
use Rattle.rdl_members.specs.declared.table.Members.{Members}

-- the nodes in the body of a number: of a node, or of the root, whose number is the count of nodes
abbrev pub members_at : List Lineage → ℕ → List Lineage
members_at all b = members_of all (option_map (λ q. q.node.path) (slice_get all b))

abbrev pub is_named : List ℕ → Instance → Bool
is_named name n = bytes_eq n.use_.name.text.now name

abbrev pub is_element : List ℕ → List ℕ → Instance → Bool
is_element name index n = is_named name n && bytes_eq (index_of n.path) index

-- The node of a body that has a name and indices, whether one has a name, and how many indices a node has at most.
pub record AreMembersOf (e : Elab) (m : Members) : Type 0 where
  pub found : (b : ℕ) (name index : List ℕ) → b ≤ e.count
      → option_to_list (option_and_then (slice_get (lineages_of e)) (first_listed m.elements (record { body = b; name = name; index = index }))) ≡ filter (λ l. is_element name index l.node) (members_at (lineages_of e) b)
  pub named : (b : ℕ) (name : List ℕ) → b ≤ e.count → is_some (first_listed m.names (record { body = b; name = name; index = [] })) ≡ list_any (λ l. is_named name l.node) (members_at (lineages_of e) b)
  pub stands : (b : ℕ) (name index : List ℕ) (k : ℕ) → first_listed m.elements (record { body = b; name = name; index = index }) ≡ Some k → k < e.count
  pub few : (b : ℕ) (name index : List ℕ) (k : ℕ) → first_listed m.elements (record { body = b; name = name; index = index }) ≡ Some k → length index ≤ m.most
