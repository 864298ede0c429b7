-- The rules on registers, their aliases, and containers.
use Rattle.std.specs.Prelude.{ℕ, Bool, not, ◌&&◌, ◌||◌, cond, List, ◌++◌, length, nat_lt, ◌==◌, flat_map, filter}
use Rattle.std.specs.List.{list_any}
use Rattle.rdl_base.specs.declared.fault.Fault.{Fault}
use Rattle.rdl_base.specs.declared.rule.Rule.TheVariants as rules
use Rattle.rdl_tree.specs.declared.item.Kind.TheVariants as kind
use Rattle.rdl_props.specs.declared.prop.Prop.{Prop}
use Rattle.rdl_props.specs.declared.prop.Prop.TheVariants as prop
use Rattle.rdl_values.specs.Uses.{same_name}
use Rattle.rdl_values.specs.Instances.{Instance, with_below, most_names, is_empty}
use Rattle.rdl_layers.specs.Phase4.{number_at}
use Rattle.rdl_layers.specs.Fields.{is_a, is_container, fields_of, is_alias, is_alias_of, views}
use Rattle.rdl_addr.specs.Bits.{Bits, bits_of}
use Rattle.rdl_rules.specs.Numbers.{registers}
use Rattle.rdl_rules.specs.FieldRules.{at_node, of_view, of_primary, without_reset}

-- F12: an alias's field that its primary has not at the same bits, or an alias of another width
abbrev pub is_same_bits : Bits → Bits → Bool
is_same_bits b c = same_name b.node.use_.name c.node.use_.name && (b.high == c.high) && (b.low == c.low)

abbrev pub differs : Instance → Instance → Prop → Bool
differs r a p = not (number_at r p == number_at a p)

abbrev pub against_primary : Instance → Instance → List Fault
against_primary a r =
    at_node rules.F12 a (differs r a prop.Regwidth || differs r a prop.Accesswidth)
    ++ flat_map (λ b. at_node rules.F12 b.node (not (list_any (is_same_bits b) (bits_of r)))) (bits_of a)

abbrev pub of_alias : List Instance → Instance → List Fault
of_alias all a = flat_map (against_primary a) (filter (λ r. is_alias_of r a) (registers all))

abbrev pub of_fields : List Instance → Instance → List Fault
of_fields all r = flat_map (λ f. of_primary f ++ flat_map (without_reset f) (views all r f)) (fields_of r)

-- F14: a register without a field
abbrev pub of_register : List Instance → Instance → List Fault
of_register all r =
    flat_map (of_view r) (bits_of r)
    ++ cond (is_alias r) (of_alias all r) (of_fields all r)
    ++ at_node rules.F14 r (is_empty (fields_of r))

-- F14: an address map or register file without a register at any depth
abbrev pub empty_container : Instance → List Fault
empty_container n = at_node rules.F14 n (is_container n && not (list_any (is_a kind.Reg) (with_below most_names n)))

-- F15: more fields than the limit
abbrev pub most_fields : ℕ
most_fields = 32768

abbrev pub too_many_fields : List Instance → List Instance → List Fault
too_many_fields top all = flat_map (λ n. at_node rules.F15 n (nat_lt most_fields (length (filter (is_a kind.Field) all)))) top
