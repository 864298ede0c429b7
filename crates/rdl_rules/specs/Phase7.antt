-- Which registers a bus of 32 data bits doesn't access 32 bits at once (this project's rule; AXI4-Lite, IHI 0022, B1).
use Rattle.std.specs.Prelude.{ℕ, ◌==◌, not, ◌&&◌, List, flat_map, Option, Contains}
use Rattle.rdl_base.specs.declared.fault.Fault.{Fault}
use Rattle.rdl_base.specs.declared.rule.Rule.TheVariants as rules
use Rattle.rdl_props.specs.declared.prop.Prop.TheVariants as prop
use Rattle.rdl_tree.specs.declared.item.Kind.TheVariants as kind
use Rattle.rdl_tree.specs.declared.item.Source.{Source}
use Rattle.rdl_values.specs.Verdict.{Fails}
use Rattle.rdl_values.specs.Uses.{at_}
use Rattle.rdl_values.specs.Instances.{Instance, nodes}
use Rattle.rdl_layers.specs.Fields.{is_a}
use Rattle.rdl_layers.specs.Phase4.{number_at}
use Rattle.rdl_rules.specs.FieldRules.{at_node}

-- X1: of registers alone
abbrev pub narrow_register : Instance → List Fault
narrow_register n = at_node rules.X1 n (is_a kind.Reg n && not (number_at n prop.Accesswidth == 32))

-- all failures of the phase
unfoldable pub failures7 : Option (List ℕ) → Source → List Fault
failures7 wanted s = flat_map narrow_register (nodes wanted s)

abbrev pub fails7 : Option (List ℕ) → Source → Fails
fails7 wanted s r p = Contains (failures7 wanted s) (at_ r p)
