-- The items that settings name.
use Rattle.std.specs.Prelude.{◌≡◌, ℕ, ◌<◌, List, [], ◌∷◌, ◌++◌, length, map, flat_map, option_to_list, slice_get, slice_index_or, take, Some, Vec}
use Rattle.std.specs.Global.{Global}
use Rattle.rdl_props.specs.Table.{reference_props}
use Rattle.rdl_base.specs.declared.fault.Fault.{Fault}
use Rattle.rdl_props.specs.declared.prop.Prop.{Prop}
use Rattle.rdl_tree.specs.declared.node.Elab.{Elab}
use Rattle.rdl_values.specs.Elaborated.{nodes_of, top_name}
use Rattle.rdl_values.specs.Instances.{Instance}
use Rattle.rdl_values.specs.Lineages.{Lineage, lineages_of}
use Rattle.rdl_layers.specs.Settings.{setting}
use Rattle.rdl_refs.specs.Answers.{IsItemOf}
use Rattle.rdl_refs.specs.Items.{Item, bad_reference, failures_r, target}
use Rattle.rdl_resolve.specs.declared.aims.Aim.{Aim}
use Rattle.rdl_resolve.specs.declared.node.NamedItem.{NamedItem}
use Rattle.rdl_resolve.specs.declared.tree.NamedItems.{NamedItems}

-- what an aim has is put behind the rest
pub record AddsAim (p : Prop) (a : Aim) (items more : List NamedItem) (faults failing : List Fault) : Type 0 where
  pub items_ : more ≡ items ++ map (λ i. record { prop = p; item = i }) (option_to_list a.target)
  pub faults_ : failing ≡ faults ++ option_to_list a.fault

-- a property with an item that its setting names
abbrev pub named_by : List Lineage → Instance → Prop → List (Prop × Item)
named_by all n p = map (λ i. (p, i)) (target all (setting n p))

-- one by one
abbrev pub AreItemsNamed : List Instance → List NamedItem → List (Prop × Item) → Type 0
AreItemsNamed ns [] [] = Unit {0}
AreItemsNamed ns (x ∷ xs) (y ∷ ys) = (x.prop ≡ y.0) × IsItemOf ns x.item y.1 × AreItemsNamed ns xs ys
AreItemsNamed ns _ _ = ⊥

-- The items that these properties of a node name are put behind others, and their failures.
pub record AddsAims (e : Elab) (n : Instance) (ps : List Prop) (items more : List NamedItem) (faults failing : List Fault) : Type 0 where
  pub added : List NamedItem
  pub items_ : more ≡ items ++ added
  pub named : AreItemsNamed (nodes_of e) added (flat_map (named_by (lineages_of e) n) ps)
  pub faults_ : failing ≡ faults ++ flat_map (λ p. bad_reference (lineages_of e) p (setting n p)) ps

-- the list of a node
abbrev pub named_at : List (Vec NamedItem Global) → ℕ → List NamedItem
named_at vs k = slice_index_or (map (λ v. v.items) vs) k []

abbrev pub all_named : Elab → Instance → List (Prop × Item)
all_named e n = flat_map (named_by (lineages_of e) n) reference_props

abbrev pub node_faults : Elab → Instance → List Fault
node_faults e n = flat_map (λ p. bad_reference (lineages_of e) p (setting n p)) reference_props

-- What the settings of the first nodes name.
pub record AreNamedTo (e : Elab) (to : ℕ) (items : List (Vec NamedItem Global)) (faults : List Fault) : Type 0 where
  pub many : length items ≡ to
  pub each : (k : ℕ) (n : Instance) → k < to → slice_get (nodes_of e) k ≡ Some n → AreItemsNamed (nodes_of e) (named_at items k) (all_named e n)
  pub faults_ : faults ≡ flat_map (node_faults e) (take to (nodes_of e))

-- What all settings name, and all failures of R1 and R2.
pub record AreNamed (e : Elab) (x : NamedItems) : Type 0 where
  pub many : length x.items.items ≡ e.count
  pub each : (k : ℕ) (n : Instance) → slice_get (nodes_of e) k ≡ Some n → AreItemsNamed (nodes_of e) (named_at x.items.items k) (all_named e n)
  pub faults_ : x.faults.items ≡ failures_r (Some (top_name e)) e.source.now
