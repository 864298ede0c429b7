-- The failures of a register, from its fields and from those of the register that it is an alias of.
use Rattle.std.specs.Prelude.{Bool, not, ◌&&◌, ◌==◌, cond, List, [], ◌++◌, flat_map, filter}
use Rattle.std.specs.List.{list_any}
use Rattle.rdl_base.specs.declared.fault.Fault.{Fault}
use Rattle.rdl_base.specs.declared.rule.Rule.TheVariants as rules
use Rattle.rdl_tree.specs.declared.item.Kind.TheVariants as kind
use Rattle.rdl_values.specs.Instances.{Instance, is_empty}
use Rattle.rdl_values.specs.Uses.{same_name}
use Rattle.rdl_layers.specs.Fields.{fields_of, is_a, is_alias, is_alias_of}
use Rattle.rdl_addr.specs.Bits.{Bits, bits_of}
use Rattle.rdl_rules.specs.FieldRules.{at_node, of_primary, of_view, without_reset}
use Rattle.rdl_rules.specs.RegisterRules.{against_primary, is_same_bits}

-- of a field that isn't in an alias, which is its own view
abbrev pub of_field : Bits → List Fault
of_field b = of_primary b.node ++ without_reset b.node b.node

-- F12, of a field in an alias against those of its primary
abbrev pub unlike : List Bits → Bits → List Fault
unlike cs b = at_node rules.F12 b.node (not (list_any (is_same_bits b) cs))

-- F11, of a field in an alias, and of the field of its name there
abbrev pub named_reset : Bits → Bits → List Fault
named_reset b c = cond (same_name b.node.use_.name c.node.use_.name) (without_reset c.node b.node) []

abbrev pub resets : List Bits → Bits → List Fault
resets cs b = flat_map (named_reset b) cs

-- of an alias and its primary
abbrev pub of_alias_of : Instance → Instance → List Fault
of_alias_of a r = against_primary a r ++ flat_map (resets (bits_of r)) (bits_of a)

-- what a register of these nodes fails as an alias, or what its fields do where it is none
abbrev pub own_failures : List Instance → Instance → List Fault
own_failures all r = cond (is_alias r) (flat_map (of_alias_of r) (filter (λ p. is_alias_of p r) (filter (is_a kind.Reg) all))) (flat_map of_field (bits_of r))

-- All failures of a register of these nodes: what its views fail, then those, then that it has no field.
unfoldable pub register_failures : List Instance → Instance → List Fault
register_failures all r = flat_map (of_view r) (bits_of r) ++ own_failures all r ++ at_node rules.F14 r (is_empty (fields_of r))
