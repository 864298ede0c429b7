-- The nodes in the body of one, as the elements of its instances.
use Rattle.std.specs.Prelude.{◌≡◌, ℕ, Bool, true, false, ◌&&◌, ◌==◌, List, [], ◌∷◌, length, map, reverse, Some, slice_get}
use Rattle.rdl_tree.specs.declared.item.Inst.{Inst}
use Rattle.rdl_tree.specs.declared.item.Kind.{Kind}
use Rattle.rdl_tree.specs.declared.item.Kind.TheVariants as kind
use Rattle.rdl_tree.specs.declared.node.Elab.{Elab}
use Rattle.rdl_tree.specs.declared.node.Node.{Node, out-Node}
use Rattle.rdl_values.specs.Elaborated.{index_of}
use Rattle.rdl_values.specs.Instances.{Instance, children}
use Rattle.rdl_values.specs.Lineages.{Lineage, lineages_of}
use Rattle.rdl_values.specs.Values.{Around}
use Rattle.rdl_nodes.specs.Rows.{AreInside}
use Rattle.rdl_addr.specs.Layout.{greatest, grouped, has_address}
use Rattle.rdl_addr.specs.Texts.{IsText}
use Rattle.rdl_sizes.specs.declared.lot.Lot.{Lot}
use Rattle.rdl_sizes.specs.declared.lot.Run.{Run}
use Rattle.rdl_sizes.specs.Lots.{AreLotsOf}

-- registers and containers have addresses
abbrev pub addressed : Kind → Bool
addressed kind.Field = false
addressed kind.Signal = false
addressed _ = true

abbrev pub all_zero : List ℕ → Bool
all_zero [] = true
all_zero (i ∷ is) = i == 0 && all_zero is

-- the first element of an instance has no index but 0
abbrev pub is_first : Instance → Bool
is_first n = all_zero (index_of n.path)

-- Elements in order: those before any first one, and behind them the elements of each instance.
pub record Runs : Type 0 where
  pub head : List Instance
  pub whole : List (List Instance)

-- with one more in front, which has an address or not, and is a first one or not
abbrev pub with_one : Bool → Bool → Instance → Runs → Runs
with_one false first n rs = rs
with_one true false n rs = record { head = n ∷ rs.head; whole = rs.whole }
with_one true true n rs = record { head = []; whole = (n ∷ rs.head) ∷ rs.whole }

abbrev pub runs : List Instance → Runs
runs [] = record { head = []; whole = [] }
runs (n ∷ ns) = with_one (has_address n) (is_first n) n (runs ns)

-- What is known of elements, from the last one on, where they have these sizes and access widths.
pub record IsGathered (size access : Instance → ℕ) (run : Run) (lots : List Lot) (rs : Runs) : Type 0 where
  pub count_ : run.count ≡ length rs.head
  pub size_ : run.size ≡ greatest (map size rs.head)
  pub access_ : run.access ≡ greatest (map access rs.head)
  pub lots_ : AreLotsOf (reverse lots) (grouped size access rs.whole)

-- the instance comes from a text, whose expressions see this
abbrev pub HasText : Around → Instance → Type 0
HasText env n = (i : Inst) × (n.use_.inst ≡ Some i) × IsText i env n

-- The nodes in a node are those in the body of one of the source.
pub record IsBodyOf (e : Elab) (r : Node) (l : Lineage) : Type 0 where
  pub number : ℕ
  pub here : slice_get (lineages_of e) number ≡ Some l
  pub inside : AreInside (lineages_of e) (l.node ∷ l.ancestors) (out-Node r).children.now (out-Node r).children.now (children l.node)
