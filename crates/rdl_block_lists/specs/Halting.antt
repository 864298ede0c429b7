-- What is enabled or masked for halt is an interrupt, where no rule on interrupts fails.
use Rattle.std.specs.Prelude.{◌≡◌, true, [], ◌∷◌, Contains}
use Rattle.rdl_tree.specs.declared.node.Elab.{Elab}
use Rattle.rdl_props.specs.declared.prop.Prop.TheVariants as prop
use Rattle.rdl_values.specs.Elaborated.{nodes_of}
use Rattle.rdl_values.specs.Instances.{Instance}
use Rattle.rdl_layers.specs.Fields.{has_one_of, is_interrupt}
use Rattle.rdl_rules.specs.Numbers.{all_fields}

abbrev pub DoHalt : Elab → Type 0
DoHalt e = (f : Instance) → Contains (all_fields (nodes_of e)) f → has_one_of (prop.Haltenable ∷ prop.Haltmask ∷ []) f ≡ true → is_interrupt f ≡ true
