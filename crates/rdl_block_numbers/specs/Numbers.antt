-- The numbers of nodes in the lists of their block.
use Rattle.std.specs.Prelude.{◌≡◌, ℕ, ◌<◌, true, List, ◌∷◌, length, Some, slice_get}
use Rattle.rdl_tree.specs.declared.item.Kind.{Kind}
use Rattle.rdl_tree.specs.declared.item.Kind.TheVariants as kind
use Rattle.rdl_tree.specs.declared.node.Elab.{Elab}
use Rattle.rdl_values.specs.Elaborated.{nodes_of}
use Rattle.rdl_values.specs.Instances.{Instance, kind_of}
use Rattle.rdl_values.specs.Lineages.{Lineage, lineages_of}
use Rattle.rdl_layers.specs.Fields.{is_a}
use Rattle.rdl_rules.specs.Fields.{first_number, viewed}
use Rattle.rdl_rules.specs.Numbers.{all_fields, all_signals, number_of, registers}
use Rattle.rdl_block_numbers.specs.declared.listed.Listing.{Listing}
use Rattle.rdl_block_numbers.specs.declared.numbers.NodeNumbers.{NodeNumbers}
use Rattle.rdl_block_numbers.specs.Listed.{list_of}

-- The numbers of all nodes in a list, or its length where a node is not in it.
pub record AreNumbersIn (of : Listing) (e : Elab) (ns : List ℕ) : Type 0 where
  pub many : length ns ≡ e.count
  pub each : (k : ℕ) (n : Instance) → slice_get (nodes_of e) k ≡ Some n → slice_get ns k ≡ Some (number_of n (list_of of (nodes_of e)))

-- the number of a node in the list of its kind: of signals, of fields, or else of registers
abbrev pub own_number : List Instance → Instance → ℕ
own_number ns n = go (kind_of n)
  where
    go : Kind → ℕ
    go kind.Signal = number_of n (all_signals ns)
    go kind.Field = number_of n (all_fields ns)
    go _ = number_of n (registers ns)

-- Of the first nodes.
pub record AreOwnTo (e : Elab) (to : ℕ) (ns : List ℕ) : Type 0 where
  pub many : length ns ≡ to
  pub each : (k : ℕ) (n : Instance) → k < to → slice_get (nodes_of e) k ≡ Some n → slice_get ns k ≡ Some (own_number (nodes_of e) n)

abbrev pub AreOwn : Elab → List ℕ → Type 0
AreOwn e ns = AreOwnTo e e.count ns

-- Of the first nodes that are fields the number of the field that each is a view of.
pub record AreViewedTo (e : Elab) (to : ℕ) (ns : List ℕ) : Type 0 where
  pub many : length ns ≡ to
  pub each : (k : ℕ) (l : Lineage) (r : Instance) (up : List Instance) → k < to → slice_get (lineages_of e) k ≡ Some l → is_a kind.Field l.node ≡ true → l.ancestors ≡ r ∷ up
      → slice_get ns k ≡ Some (first_number (viewed (nodes_of e) r l.node) (all_fields (nodes_of e)))

abbrev pub AreViewed : Elab → List ℕ → Type 0
AreViewed e ns = AreViewedTo e e.count ns

-- The numbers of all nodes, and of the fields that fields are views of.
pub record AreNodeNumbers (e : Elab) (x : NodeNumbers) : Type 0 where
  pub own_ : AreOwn e x.own.items
  pub viewed_ : AreViewed e x.viewed.items
