-- Nodes and the instances that they say, and the parts of R6.
use Rattle.std.specs.Prelude.{◌≡◌, not, ◌&&◌, ◌==◌, List, [], ◌∷◌, Some, flat_map, slice_get}
use Rattle.rdl_base.specs.declared.fault.Fault.{Fault}
use Rattle.rdl_base.specs.declared.rule.Rule.TheVariants as rules
use Rattle.rdl_tree.specs.declared.node.Elab.{Elab}
use Rattle.rdl_tree.specs.declared.node.Node.{Node, out-Node}
use Rattle.rdl_props.specs.declared.prop.Prop.TheVariants as prop
use Rattle.rdl_values.specs.Elaborated.{nodes_of}
use Rattle.rdl_values.specs.Instances.{Instance, kind_of}
use Rattle.rdl_values.specs.Lineages.{Lineage}
use Rattle.rdl_layers.specs.Phase4.{width_of}
use Rattle.rdl_layers.specs.Settings.{setting}
use Rattle.rdl_refs.specs.Items.{target}
use Rattle.rdl_rules.specs.FieldRules.{at_node}
use Rattle.rdl_rules.specs.Fields.{is_field_reset}

-- The node says of which kind the instance at its number is, and where its name stands.
pub record IsSaid (e : Elab) (r : Node) (n : Instance) : Type 0 where
  pub here : slice_get (nodes_of e) (out-Node r).id ≡ Some n
  pub kind_ : (out-Node r).kind ≡ kind_of n
  pub place_ : (out-Node r).place ≡ n.use_.name.place

-- one by one
abbrev pub AreSaid : Elab → List Node → List Instance → Type 0
AreSaid e [] [] = Unit {0}
AreSaid e (r ∷ rs) (n ∷ ns) = IsSaid e r n × AreSaid e rs ns
AreSaid e _ _ = ⊥

-- R6 of a node that is a reset signal, and of the one that its resetsignal names
abbrev pub wide_own : Instance → List Fault
wide_own n = at_node rules.R6 n (is_field_reset n && not (width_of n == 1))

abbrev pub wide_named : List Lineage → Instance → List Fault
wide_named all n = flat_map (λ i. at_node rules.R6 i.node (not (width_of i.node == 1))) (target all (setting n prop.Resetsignal))
