-- The nearest reset signals.
use Rattle.std.specs.Prelude.{◌≡◌, ℕ, ◌<◌, true, false, not, List, [], ◌∷◌, ◌++◌, length, flat_map, filter, Option, None, Some, slice_get}
use Rattle.std.specs.List.{AllByRecursion}
use Rattle.rdl_tree.specs.declared.item.Kind.TheVariants as kind
use Rattle.rdl_tree.specs.declared.node.Elab.{Elab}
use Rattle.rdl_props.specs.declared.prop.Prop.TheVariants as prop
use Rattle.rdl_values.specs.Elaborated.{nodes_of}
use Rattle.rdl_values.specs.Instances.{Instance, children, signals}
use Rattle.rdl_values.specs.Lineages.{Lineage, lineages_of, nodes_in}
use Rattle.rdl_layers.specs.Fields.{has, is_a}
use Rattle.rdl_rules.specs.Fields.{is_field_reset}
use Rattle.rdl_rules.specs.Numbers.{all_signals, number_of}
use Rattle.rb_model.specs.declared.kinds.ResetBy.{ResetBy}

-- the number of the first of these nodes, and none where there is none
abbrev pub IsFirst : Elab → List Instance → Option ℕ → Type 0
IsFirst e [] o = o ≡ None
IsFirst e (n ∷ ns) o = (k : ℕ) × (o ≡ Some k) × (slice_get (nodes_of e) k ≡ Some n)

-- what stands in the bodies round what is in a node: in its own, in those of the nodes that it stands in, and in the root's
abbrev pub nodes_in_and_round : Elab → Lineage → List Instance
nodes_in_and_round e l = flat_map children (l.node ∷ l.ancestors) ++ signals e.source.now

-- Of the first nodes.
pub record AreNearestTo (e : Elab) (to : ℕ) (rs : List (Option ℕ)) : Type 0 where
  pub many : length rs ≡ to
  pub each : (k : ℕ) (l : Lineage) → k < to → slice_get (lineages_of e) k ≡ Some l → (o : Option ℕ) × (slice_get rs k ≡ Some o) × IsFirst e (filter is_field_reset (nodes_in_and_round e l)) o

-- of all nodes
abbrev pub AreNearest : Elab → List (Option ℕ) → Type 0
AreNearest e rs = AreNearestTo e e.count rs

-- what is listed under a number, or this
abbrev pub outer_in : List (Option ℕ) → Option ℕ → Option ℕ → Option ℕ
outer_in rs root None = root
outer_in rs root (Some p) = listed (slice_get rs p)
  where
    listed : Option (Option ℕ) → Option ℕ
    listed (Some o) = o
    listed None = root

-- the nodes are signals
abbrev pub AreSignals : List Instance → Type 0
AreSignals ns = AllByRecursion (λ n. is_a kind.Signal n ≡ true) ns

-- how the first of some signals resets, or else the bus's reset: active low, and at once
abbrev pub resets_of : List Lineage → List Instance → ResetBy
resets_of all (n ∷ ns) = record { signal = Some (number_of n (all_signals (nodes_in all))); low = has prop.Activelow n; sync = not (has prop.Async n) }
resets_of all [] = record { signal = None; low = true; sync = false }
