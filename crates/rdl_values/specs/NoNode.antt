-- The failures after which a use gives no node: rules E3 to E6, E8, E10, E11 and E13, and V rules in its arguments, in defaults
-- of parameters and in the parts of its form.
use Rattle.std.specs.Prelude.{ℕ, Bool, true, false, not, ◌&&◌, List, [], ◌∷◌, ◌++◌, nat_lt, flat_map, find, Option, None, Some, is_none, option_to_list}
use Rattle.std.specs.List.{list_any}
use Rattle.rdl_base.specs.declared.fault.Fault.{Fault}
use Rattle.rdl_base.specs.declared.rule.Rule.TheVariants as rules
use Rattle.rdl_tree.specs.declared.expr.Name.{Name}
use Rattle.rdl_tree.specs.declared.item.Kind.{Kind}
use Rattle.rdl_tree.specs.declared.item.Kind.TheVariants as kind
use Rattle.rdl_values.specs.Bodies.{Closure, same_name}
use Rattle.rdl_values.specs.Faults.{at_, when, failures}
use Rattle.rdl_values.specs.Parameters.{bad_arguments, bound_of}
use Rattle.rdl_values.specs.Parts.{bad_parts, bad_array, long_path, is_empty}
use Rattle.rdl_values.specs.Paths.{Parent, nowhere, at_root, in_node, depth_in}
use Rattle.rdl_values.specs.Uses.{Use, Seen}

-- E5: which kinds a kind holds; the root holds signals
abbrev pub holds : Kind → Kind → Bool
holds kind.Addrmap kind.Field = false
holds kind.Addrmap k = true
holds kind.Regfile kind.Regfile = true
holds kind.Regfile kind.Reg = true
holds kind.Regfile kind.Signal = true
holds kind.Reg kind.Field = true
holds kind.Reg kind.Signal = true
holds outer k = false

abbrev pub is_signal : Kind → Bool
is_signal kind.Signal = true
is_signal _ = false

abbrev pub may_hold : Parent → Kind → Bool
may_hold nowhere k = true
may_hold at_root k = is_signal k
may_hold (in_node p outer) k = holds outer k

-- E8: a path has at most 32 names below the root, the top's among them
abbrev pub most_names : ℕ
most_names = 32

-- E13: the primary of an alias is the first use of its name before it, and both are single registers, by their forms alone
-- (SystemRDL 2.0, 10.5).

abbrev pub is_reg : Kind → Bool
is_reg kind.Reg = true
is_reg _ = false

abbrev pub is_single_reg : Use → Bool
is_single_reg u = is_empty u.dims && is_none u.form.range && list_any (λ c. is_reg c.def.kind) (option_to_list u.closure)

abbrev pub is_primary : Use → Bool
is_primary u = is_none u.alias && is_single_reg u

abbrev pub has_primary : List Use → Name → Bool
has_primary earlier n = list_any is_primary (option_to_list (find (λ u. same_name u.name n) earlier))

abbrev pub bad_alias : List Use → Use → List Fault
bad_alias earlier u = flat_map (λ n. when (not (has_primary earlier n && is_single_reg u)) (at_ rules.E13 n.place)) (option_to_list u.alias)

-- E4: the name stands before, whether or not that use gave a node
abbrev pub name_twice : Seen → List Fault
name_twice s = when (list_any (λ u. same_name u.name s.use_.name) s.earlier) (at_ rules.E4 s.use_.name.place)

-- all that are judged where the type is visible
abbrev pub of_closure : Seen → Closure → List Fault
of_closure s c =
    when (not (may_hold s.parent c.def.kind)) (at_ rules.E5 s.use_.name.place)
    ++ bad_arguments s.use_ c
    ++ failures (bound_of s.use_ c)
    ++ bad_parts s.use_
    ++ when (nat_lt most_names (depth_in s.parent)) (at_ rules.E8 s.use_.name.place)
    ++ bad_array s.use_ c.def.kind
    ++ long_path s.parent s.use_ c.def.kind
    ++ bad_alias s.earlier s.use_

-- E3: of a type that is not visible nothing more is judged
abbrev pub of_type : Seen → Option Closure → List Fault
of_type s None = at_ rules.E3 s.use_.type_place ∷ []
of_type s (Some c) = of_closure s c

abbrev pub no_node : Seen → List Fault
no_node s = name_twice s ++ of_type s s.use_.closure
