-- The numbers of the items that settings name.
use Rattle.std.specs.Prelude.{◌≡◌, ℕ, ◌<◌, List, [], ◌∷◌, length, Contains, Some, Vec, slice_get}
use Rattle.std.specs.Global.{Global}
use Rattle.std.specs.List.{AllByRecursion}
use Rattle.rdl_props.specs.declared.prop.Prop.{Prop}
use Rattle.rdl_tree.specs.declared.node.Elab.{Elab}
use Rattle.rdl_values.specs.Elaborated.{nodes_of}
use Rattle.rdl_values.specs.Instances.{Instance, kind_of}
use Rattle.rdl_values.specs.Lineages.{lineages_of}
use Rattle.rdl_refs.specs.declared.refs.Target.{Target}
use Rattle.rdl_refs.specs.Answers.{TargetAt}
use Rattle.rdl_refs.specs.Follows.{item_number}
use Rattle.rdl_refs.specs.Items.{Item, whats}
use Rattle.rdl_refs.specs.Tables.{item_at, list_at}
use Rattle.rdl_resolve.specs.declared.node.NamedItem.{NamedItem}
use Rattle.rdl_resolve.specs.Named.{AreItemsNamed, all_named, named_at}

-- an item is one that its node has
abbrev pub Has : Prop × Item → Type 0
Has y = Contains (whats (kind_of y.1.node)) y.1.what

abbrev pub AllHave : List (Prop × Item) → Type 0
AllHave ys = AllByRecursion Has ys

-- one by one: the property, and the item's number
abbrev pub AreNumbered : Elab → List Target → List (Prop × Item) → Type 0
AreNumbered e [] [] = Unit {0}
AreNumbered e (t ∷ ts) (y ∷ ys) = (t.prop ≡ y.0) × (t.item ≡ item_number (lineages_of e) y.1) × AreNumbered e ts ys
AreNumbered e _ _ = ⊥

-- What the settings of all nodes name, node by node.
pub record AreListed (e : Elab) (vs : List (Vec NamedItem Global)) : Type 0 where
  pub many : length vs ≡ e.count
  pub each : (k : ℕ) (n : Instance) → slice_get (nodes_of e) k ≡ Some n → AreItemsNamed (nodes_of e) (named_at vs k) (all_named e n)

-- The numbers of the items that the settings of the first nodes name.
pub record AreTargetsTo (e : Elab) (to : ℕ) (ts : List (Vec Target Global)) : Type 0 where
  pub many : length ts ≡ to
  pub named : (k : ℕ) (p : Prop) → k < to → TargetAt e k p (item_at p (list_at ts k))

-- the targets that the references of a tree keep
abbrev pub AreTargets : Elab → List (Vec Target Global) → Type 0
AreTargets e ts = AreTargetsTo e e.count ts
