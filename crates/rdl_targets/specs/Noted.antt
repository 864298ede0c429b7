-- Which names and indices the nodes in some bodies have.
use Rattle.std.specs.Prelude.{◌≡◌, ℕ, ◌==◌, Bool, true, false, ◌&&◌, List, [], bytes_eq, flat_map, option_to_list, slice_get}
use Rattle.rdl_tree.specs.declared.node.Node.{Node, out-Node}
use Rattle.rdl_values.specs.Parts.{is_empty}
use Rattle.rdl_nodes.specs.Keyed.{Key, nodes_under}
use Rattle.rdl_nodes.specs.declared.table.Row.{Row}
use Rattle.rdl_targets.specs.Contents.{element_key, name_key, under}
use Rattle.rdl_targets.specs.declared.matching.Wanted.{Wanted}
use Rattle.rdl_targets.specs.declared.matching.Wanted.TheVariants as wants
use Rattle.rdl_targets.specs.declared.notes.Notes.{Notes}

-- those under a body, a name and the indices that are wanted
abbrev pub under_wanted : Notes → ℕ → List ℕ → Wanted → List ℕ
under_wanted c b name wants.Any = nodes_under c.names (record { body = b; name = name; index = [] })
under_wanted c b name wants.None = []
under_wanted c b name (wants.These v) = nodes_under c.elements (record { body = b; name = name; index = v.items })

-- the same body, name and indices
abbrev pub same_wanted : Wanted → Wanted → Bool
same_wanted wants.Any wants.Any = true
same_wanted (wants.These v) (wants.These w) = bytes_eq v.items w.items
same_wanted _ _ = false

abbrev pub same_turn : ℕ → List ℕ → Wanted → ℕ → List ℕ → Wanted → Bool
same_turn b name w c other v = b == c && bytes_eq name other && same_wanted w v

-- Under this number some node has each name of these nodes, and their names and indices.
pub record NotesNodes (b : ℕ) (rs : List Node) (old new : Notes) : Type 0 where
  pub names_ : (k : Key) → is_empty (nodes_under new.names k) ≡ (is_empty (nodes_under old.names k) && is_empty (under name_key k b rs))
  pub elements_ : (k : Key) → is_empty (nodes_under new.elements k) ≡ (is_empty (nodes_under old.elements k) && is_empty (under element_key k b rs))

-- the nodes in the body of one, by its number
abbrev pub inside : List Row → ℕ → List Node
inside rows k = flat_map (λ x. (out-Node x.node.now).children.now) (option_to_list (slice_get rows k))

-- Under a number some node has each name of the nodes in the bodies of these, and their names and indices.
abbrev pub NotesAll : ℕ → List Row → List ℕ → Notes → Notes → Type 0
NotesAll b rows ks old new = NotesNodes b (flat_map (inside rows) ks) old new
