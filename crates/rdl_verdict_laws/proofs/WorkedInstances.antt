-- What the definitions of instances give of these sources, by computing.
use Rattle.std.proofs.Common.{◌≡◌, ℕ, List, [], ◌∷◌, Option, None, Some, refl, map, codes, true}
use Rattle.std.specs.Fmt.{digits}
use Rattle.rdl_base.specs.declared.fault.Fault.{Fault}
use Rattle.rdl_base.specs.declared.rule.Rule.TheVariants as rules
use Rattle.rdl_tree.specs.declared.expr.Path.{roll-Path}
use Rattle.rdl_tree.specs.declared.item.Source.{Source}
use Rattle.rdl_values.specs.Bodies.{Step, Path, of_signal, below_top}
use Rattle.rdl_values.specs.Elaborated.{measured}
use Rattle.rdl_values.specs.Faults.{at_}
use Rattle.rdl_values.specs.Instances.{nodes}
use Rattle.rdl_values.specs.Paths.{path_text}
use Rattle.rdl_values.specs.Values.{Val, number, flag}
use Rattle.rdl_values.specs.Verdict.{IsListOf}
use Rattle.rdl_values.specs.Phase3.{failures3, fails3}
use Rattle.rdl_values.specs.Verdict.{in_order}
use Rattle.rdl_values.proofs.Sorted.{in_order-is}
use Rattle.rdl_verdict_laws.proofs.InstancesSources as src
use Rattle.rdl_verdict_laws.proofs.WorkedTrees.{at}

-- The list of the phase's failures: by `in_order-is` it is the one that `IsListOf` has.
abbrev verdict : Option (List ℕ) → Source → List Fault
verdict wanted s = in_order (failures3 wanted s)

pub verdict-is : (wanted : Option (List ℕ)) (s : Source) → IsListOf (fails3 wanted s) (verdict wanted s)
verdict-is wanted s = in_order-is (failures3 wanted s)

abbrev step : List ℕ → Step
step n = record { name = n; index = [] }

abbrev element : List ℕ → ℕ → Step
element n i = record { name = n; index = i ∷ [] }

-- What fails.

-- an empty source has no top
empty_source_fails : verdict None src.empty_source ≡ at_ rules.E1 (at 0) ∷ []
unfolding nodes failures3 digits roll-Path denote.Hole.Carrier.roll Rattle.rdl_tree.specs.declared.expr.Expr.TheBlock.hidden-the_row-Step-1 denote.Hole.Carrier.hidden Rattle.rdl_tree.specs.declared.item.Item.TheBlock.hidden-the_row-Item-0
empty_source_fails = refl

-- the first source breaks no rule
one_fails : verdict None src.one ≡ []
unfolding nodes failures3 digits roll-Path denote.Hole.Carrier.roll Rattle.rdl_tree.specs.declared.expr.Expr.TheBlock.hidden-the_row-Step-1 denote.Hole.Carrier.hidden Rattle.rdl_tree.specs.declared.item.Item.TheBlock.hidden-the_row-Item-0
one_fails = refl

-- a zero divisor in a field's bracket
division_in_a_width_fails : verdict None src.division_in_a_width ≡ at_ rules.V4 (at 31) ∷ []
unfolding nodes failures3 digits roll-Path denote.Hole.Carrier.roll Rattle.rdl_tree.specs.declared.expr.Expr.TheBlock.hidden-the_row-Step-1 denote.Hole.Carrier.hidden Rattle.rdl_tree.specs.declared.item.Item.TheBlock.hidden-the_row-Item-0
division_in_a_width_fails = refl

-- an unknown type, a field in an address map and a name twice; settings are not judged yet
three_failures_fails : verdict None src.three_failures ≡ at_ rules.E3 (at 55) ∷ at_ rules.E5 (at 69) ∷ at_ rules.E4 (at 92) ∷ []
unfolding nodes failures3 digits roll-Path denote.Hole.Carrier.roll Rattle.rdl_tree.specs.declared.expr.Expr.TheBlock.hidden-the_row-Step-1 denote.Hole.Carrier.hidden Rattle.rdl_tree.specs.declared.item.Item.TheBlock.hidden-the_row-Item-0
three_failures_fails = refl

-- an enumeration that is not visible yet, a parameter without a value, an argument of no parameter
parameters_and_arrays_fails : verdict None src.parameters_and_arrays ≡ at_ rules.V1 (at 16) ∷ at_ rules.E6 (at 150) ∷ at_ rules.E6 (at 170) ∷ []
unfolding nodes failures3 digits roll-Path denote.Hole.Carrier.roll Rattle.rdl_tree.specs.declared.expr.Expr.TheBlock.hidden-the_row-Step-1 denote.Hole.Carrier.hidden Rattle.rdl_tree.specs.declared.item.Item.TheBlock.hidden-the_row-Item-0
parameters_and_arrays_fails = refl

-- definitions that no path uses are not judged
unused_definitions_fails : verdict None src.unused_definitions ≡ []
unfolding nodes failures3 digits roll-Path denote.Hole.Carrier.roll Rattle.rdl_tree.specs.declared.expr.Expr.TheBlock.hidden-the_row-Step-1 denote.Hole.Carrier.hidden Rattle.rdl_tree.specs.declared.item.Item.TheBlock.hidden-the_row-Item-0
unused_definitions_fails = refl

-- where the top gives no node, nothing below it is judged; the root is
no_longer_judged_fails : verdict None src.no_longer_judged ≡ at_ rules.E6 (at 8) ∷ at_ rules.V4 (at 65) ∷ []
unfolding nodes failures3 digits roll-Path denote.Hole.Carrier.roll Rattle.rdl_tree.specs.declared.expr.Expr.TheBlock.hidden-the_row-Step-1 denote.Hole.Carrier.hidden Rattle.rdl_tree.specs.declared.item.Item.TheBlock.hidden-the_row-Item-0
no_longer_judged_fails = refl

-- a definition's or enumeration's name stands before, at the root and in a body
names_twice_fails : verdict None src.names_twice ≡ at_ rules.E2 (at 19) ∷ at_ rules.E2 (at 43) ∷ at_ rules.E2 (at 80) ∷ at_ rules.E2 (at 98) ∷ []
unfolding nodes failures3 digits roll-Path denote.Hole.Carrier.roll Rattle.rdl_tree.specs.declared.expr.Expr.TheBlock.hidden-the_row-Step-1 denote.Hole.Carrier.hidden Rattle.rdl_tree.specs.declared.item.Item.TheBlock.hidden-the_row-Item-0
names_twice_fails = refl

-- of two components of one name the first is used, and the second where it stands
first_of_a_name_fails : verdict None src.first_of_a_name ≡ at_ rules.E2 (at 39) ∷ []
unfolding nodes failures3 digits roll-Path denote.Hole.Carrier.roll Rattle.rdl_tree.specs.declared.expr.Expr.TheBlock.hidden-the_row-Step-1 denote.Hole.Carrier.hidden Rattle.rdl_tree.specs.declared.item.Item.TheBlock.hidden-the_row-Item-0
first_of_a_name_fails = refl

-- which kind holds which, and what the root holds
what_holds_what_fails : verdict None src.what_holds_what ≡ at_ rules.E5 (at 16) ∷ at_ rules.E5 (at 24) ∷ at_ rules.E5 (at 42) ∷ at_ rules.E5 (at 76) ∷ at_ rules.E5 (at 89) ∷ at_ rules.E5 (at 133) ∷ at_ rules.E5 (at 157) ∷ at_ rules.E5 (at 169) ∷ at_ rules.E5 (at 202) ∷ at_ rules.E5 (at 216) ∷ at_ rules.E5 (at 226) ∷ at_ rules.E5 (at 257) ∷ at_ rules.E5 (at 269) ∷ at_ rules.E5 (at 282) ∷ []
unfolding nodes failures3 digits roll-Path denote.Hole.Carrier.roll Rattle.rdl_tree.specs.declared.expr.Expr.TheBlock.hidden-the_row-Step-1 denote.Hole.Carrier.hidden Rattle.rdl_tree.specs.declared.item.Item.TheBlock.hidden-the_row-Item-0
what_holds_what_fails = refl

-- arguments that are unknown or repeated are not evaluated, nor a default beside an argument; a parameter without a value; what is behind the first failure is not evaluated
bad_parameters_fails : verdict None src.bad_parameters ≡ at_ rules.V4 (at 22) ∷ at_ rules.E6 (at 82) ∷ at_ rules.E6 (at 93) ∷ at_ rules.E6 (at 113) ∷ []
unfolding nodes failures3 digits roll-Path denote.Hole.Carrier.roll Rattle.rdl_tree.specs.declared.expr.Expr.TheBlock.hidden-the_row-Step-1 denote.Hole.Carrier.hidden Rattle.rdl_tree.specs.declared.item.Item.TheBlock.hidden-the_row-Item-0
bad_parameters_fails = refl

-- two parameters of one name; a failing default before hides the second
parameters_twice_fails : verdict None src.parameters_twice ≡ at_ rules.E6 (at 31) ∷ at_ rules.V4 (at 77) ∷ []
unfolding nodes failures3 digits roll-Path denote.Hole.Carrier.roll Rattle.rdl_tree.specs.declared.expr.Expr.TheBlock.hidden-the_row-Step-1 denote.Hole.Carrier.hidden Rattle.rdl_tree.specs.declared.item.Item.TheBlock.hidden-the_row-Item-0
parameters_twice_fails = refl

-- numbers and booleans convert, strings do not
types_of_parameters_fails : verdict None src.types_of_parameters ≡ at_ rules.V2 (at 104) ∷ at_ rules.V2 (at 135) ∷ at_ rules.V2 (at 168) ∷ []
unfolding nodes failures3 digits roll-Path denote.Hole.Carrier.roll Rattle.rdl_tree.specs.declared.expr.Expr.TheBlock.hidden-the_row-Step-1 denote.Hole.Carrier.hidden Rattle.rdl_tree.specs.declared.item.Item.TheBlock.hidden-the_row-Item-0
types_of_parameters_fails = refl

-- of a use whose type is not visible nothing else is judged but its name
unknown_type_fails : verdict None src.unknown_type ≡ at_ rules.E3 (at 22) ∷ at_ rules.E3 (at 70) ∷ at_ rules.E4 (at 72) ∷ at_ rules.E4 (at 82) ∷ []
unfolding nodes failures3 digits roll-Path denote.Hole.Carrier.roll Rattle.rdl_tree.specs.declared.expr.Expr.TheBlock.hidden-the_row-Step-1 denote.Hole.Carrier.hidden Rattle.rdl_tree.specs.declared.item.Item.TheBlock.hidden-the_row-Item-0
unknown_type_fails = refl

-- a dimension of 0, nine dimensions, two brackets of a field or signal; a width of 0 is none
bad_arrays_fails : verdict None src.bad_arrays ≡ at_ rules.E10 (at 32) ∷ at_ rules.E10 (at 51) ∷ at_ rules.E10 (at 98) ∷ at_ rules.E10 (at 106) ∷ at_ rules.E10 (at 117) ∷ at_ rules.E10 (at 178) ∷ at_ rules.V4 (at 182) ∷ []
unfolding nodes failures3 digits roll-Path denote.Hole.Carrier.roll Rattle.rdl_tree.specs.declared.expr.Expr.TheBlock.hidden-the_row-Step-1 denote.Hole.Carrier.hidden Rattle.rdl_tree.specs.declared.item.Item.TheBlock.hidden-the_row-Item-0
bad_arrays_fails = refl

-- a range or a reset value of no field; an address, stride or alignment of a field or signal; an address beside an alignment; a stride without dimensions
bad_forms_fails : verdict None src.bad_forms ≡ at_ rules.E12 (at 19) ∷ at_ rules.E12 (at 34) ∷ at_ rules.E12 (at 56) ∷ at_ rules.E12 (at 71) ∷ at_ rules.E12 (at 88) ∷ at_ rules.E12 (at 108) ∷ at_ rules.E12 (at 126) ∷ at_ rules.E12 (at 143) ∷ at_ rules.E12 (at 161) ∷ at_ rules.E12 (at 219) ∷ at_ rules.E12 (at 237) ∷ []
unfolding nodes failures3 digits roll-Path denote.Hole.Carrier.roll Rattle.rdl_tree.specs.declared.expr.Expr.TheBlock.hidden-the_row-Step-1 denote.Hole.Carrier.hidden Rattle.rdl_tree.specs.declared.item.Item.TheBlock.hidden-the_row-Item-0
bad_forms_fails = refl

-- no primary; a later one; an array; an alias; no register; the alias is an array, or no register
bad_aliases_fails : verdict None src.bad_aliases ≡ at_ rules.E13 (at 61) ∷ at_ rules.E13 (at 74) ∷ at_ rules.E13 (at 100) ∷ at_ rules.E13 (at 126) ∷ at_ rules.E13 (at 144) ∷ at_ rules.E13 (at 157) ∷ at_ rules.E13 (at 173) ∷ at_ rules.E12 (at 198) ∷ at_ rules.E13 (at 212) ∷ []
unfolding nodes failures3 digits roll-Path denote.Hole.Carrier.roll Rattle.rdl_tree.specs.declared.expr.Expr.TheBlock.hidden-the_row-Step-1 denote.Hole.Carrier.hidden Rattle.rdl_tree.specs.declared.item.Item.TheBlock.hidden-the_row-Item-0
bad_aliases_fails = refl

-- the primary is the first use of its name; one that gave no node is one all the same
alias_of_the_first_fails : verdict None src.alias_of_the_first ≡ at_ rules.E4 (at 62) ∷ at_ rules.E13 (at 71) ∷ at_ rules.E6 (at 83) ∷ []
unfolding nodes failures3 digits roll-Path denote.Hole.Carrier.roll Rattle.rdl_tree.specs.declared.expr.Expr.TheBlock.hidden-the_row-Step-1 denote.Hole.Carrier.hidden Rattle.rdl_tree.specs.declared.item.Item.TheBlock.hidden-the_row-Item-0
alias_of_the_first_fails = refl

-- entries of one name, of one value; none behind a failing value
bad_enums_fails : verdict None src.bad_enums ≡ at_ rules.E14 (at 24) ∷ at_ rules.E14 (at 34) ∷ at_ rules.V4 (at 47) ∷ at_ rules.V1 (at 133) ∷ []
unfolding nodes failures3 digits roll-Path denote.Hole.Carrier.roll Rattle.rdl_tree.specs.declared.expr.Expr.TheBlock.hidden-the_row-Step-1 denote.Hole.Carrier.hidden Rattle.rdl_tree.specs.declared.item.Item.TheBlock.hidden-the_row-Item-0
bad_enums_fails = refl

-- each V rule in a dimension
values_in_dimensions_fails : verdict None src.values_in_dimensions ≡ at_ rules.V1 (at 26) ∷ at_ rules.V2 (at 36) ∷ at_ rules.V3 (at 50) ∷ at_ rules.V4 (at 62) ∷ at_ rules.V2 (at 73) ∷ at_ rules.V1 (at 84) ∷ at_ rules.V1 (at 94) ∷ at_ rules.V1 (at 105) ∷ at_ rules.V1 (at 117) ∷ []
unfolding nodes failures3 digits roll-Path denote.Hole.Carrier.roll Rattle.rdl_tree.specs.declared.expr.Expr.TheBlock.hidden-the_row-Step-1 denote.Hole.Carrier.hidden Rattle.rdl_tree.specs.declared.item.Item.TheBlock.hidden-the_row-Item-0
values_in_dimensions_fails = refl

-- V rules in a range, a reset value, an address, a stride, an alignment: each part's first
values_in_other_parts_fails : verdict None src.values_in_other_parts ≡ at_ rules.V1 (at 29) ∷ at_ rules.V3 (at 33) ∷ at_ rules.V4 (at 42) ∷ at_ rules.V1 (at 65) ∷ at_ rules.V4 (at 72) ∷ at_ rules.V2 (at 89) ∷ []
unfolding nodes failures3 digits roll-Path denote.Hole.Carrier.roll Rattle.rdl_tree.specs.declared.expr.Expr.TheBlock.hidden-the_row-Step-1 denote.Hole.Carrier.hidden Rattle.rdl_tree.specs.declared.item.Item.TheBlock.hidden-the_row-Item-0
values_in_other_parts_fails = refl

-- each V rule in an argument
values_in_arguments_fails : verdict None src.values_in_arguments ≡ at_ rules.V1 (at 42) ∷ at_ rules.V2 (at 56) ∷ at_ rules.V3 (at 74) ∷ at_ rules.V4 (at 92) ∷ []
unfolding nodes failures3 digits roll-Path denote.Hole.Carrier.roll Rattle.rdl_tree.specs.declared.expr.Expr.TheBlock.hidden-the_row-Step-1 denote.Hole.Carrier.hidden Rattle.rdl_tree.specs.declared.item.Item.TheBlock.hidden-the_row-Item-0
values_in_arguments_fails = refl

-- each V rule in a parameter's default
values_in_defaults_fails : verdict None src.values_in_defaults ≡ at_ rules.V1 (at 20) ∷ at_ rules.V2 (at 47) ∷ at_ rules.V3 (at 78) ∷ at_ rules.V4 (at 109) ∷ at_ rules.V1 (at 138) ∷ []
unfolding nodes failures3 digits roll-Path denote.Hole.Carrier.roll Rattle.rdl_tree.specs.declared.expr.Expr.TheBlock.hidden-the_row-Step-1 denote.Hole.Carrier.hidden Rattle.rdl_tree.specs.declared.item.Item.TheBlock.hidden-the_row-Item-0
values_in_defaults_fails = refl

-- each V rule in an enumeration; a counted value out of range
values_in_enums_fails : verdict None src.values_in_enums ≡ at_ rules.V1 (at 13) ∷ at_ rules.V2 (at 32) ∷ at_ rules.V3 (at 55) ∷ at_ rules.V4 (at 78) ∷ at_ rules.V3 (at 119) ∷ at_ rules.V1 (at 145) ∷ []
unfolding nodes failures3 digits roll-Path denote.Hole.Carrier.roll Rattle.rdl_tree.specs.declared.expr.Expr.TheBlock.hidden-the_row-Step-1 denote.Hole.Carrier.hidden Rattle.rdl_tree.specs.declared.item.Item.TheBlock.hidden-the_row-Item-0
values_in_enums_fails = refl

-- a body is judged under the values of its parameters, and a failure that it has at two nodes is named once
values_of_a_body_fails : verdict None src.values_of_a_body ≡ at_ rules.V4 (at 34) ∷ []
unfolding nodes failures3 digits roll-Path denote.Hole.Carrier.roll Rattle.rdl_tree.specs.declared.expr.Expr.TheBlock.hidden-the_row-Step-1 denote.Hole.Carrier.hidden Rattle.rdl_tree.specs.declared.item.Item.TheBlock.hidden-the_row-Item-0
values_of_a_body_fails = refl

-- a nearer definition is meant, and a later one is not visible yet
nearer_definitions_fails : verdict None src.nearer_definitions ≡ []
unfolding nodes failures3 digits roll-Path denote.Hole.Carrier.roll Rattle.rdl_tree.specs.declared.expr.Expr.TheBlock.hidden-the_row-Step-1 denote.Hole.Carrier.hidden Rattle.rdl_tree.specs.declared.item.Item.TheBlock.hidden-the_row-Item-0
nearer_definitions_fails = refl

-- a definition is visible neither before its end nor outside its body
invisible_definitions_fails : verdict None src.invisible_definitions ≡ at_ rules.E3 (at 8) ∷ at_ rules.E3 (at 33) ∷ at_ rules.E3 (at 78) ∷ []
unfolding nodes failures3 digits roll-Path denote.Hole.Carrier.roll Rattle.rdl_tree.specs.declared.expr.Expr.TheBlock.hidden-the_row-Step-1 denote.Hole.Carrier.hidden Rattle.rdl_tree.specs.declared.item.Item.TheBlock.hidden-the_row-Item-0
invisible_definitions_fails = refl

-- a nearer parameter is meant; a default names those before it
nearer_parameters_fails : verdict None src.nearer_parameters ≡ []
unfolding nodes failures3 digits roll-Path denote.Hole.Carrier.roll Rattle.rdl_tree.specs.declared.expr.Expr.TheBlock.hidden-the_row-Step-1 denote.Hole.Carrier.hidden Rattle.rdl_tree.specs.declared.item.Item.TheBlock.hidden-the_row-Item-0
nearer_parameters_fails = refl

-- a nearer enumeration is meant behind its end
nearer_enums_fails : verdict None src.nearer_enums ≡ at_ rules.V1 (at 124) ∷ []
unfolding nodes failures3 digits roll-Path denote.Hole.Carrier.roll Rattle.rdl_tree.specs.declared.expr.Expr.TheBlock.hidden-the_row-Step-1 denote.Hole.Carrier.hidden Rattle.rdl_tree.specs.declared.item.Item.TheBlock.hidden-the_row-Item-0
nearer_enums_fails = refl

-- an entry without a value counts on
counted_enums_fails : verdict None src.counted_enums ≡ []
unfolding nodes failures3 digits roll-Path denote.Hole.Carrier.roll Rattle.rdl_tree.specs.declared.expr.Expr.TheBlock.hidden-the_row-Step-1 denote.Hole.Carrier.hidden Rattle.rdl_tree.specs.declared.item.Item.TheBlock.hidden-the_row-Item-0
counted_enums_fails = refl

-- the top is the last named address map at the root
three_tops_fails : verdict None src.three_tops ≡ at_ rules.E2 (at 58) ∷ []
unfolding nodes failures3 digits roll-Path denote.Hole.Carrier.roll Rattle.rdl_tree.specs.declared.expr.Expr.TheBlock.hidden-the_row-Step-1 denote.Hole.Carrier.hidden Rattle.rdl_tree.specs.declared.item.Item.TheBlock.hidden-the_row-Item-0
three_tops_fails = refl

-- the root's signals, then the top; each node before those in its body
order_of_nodes_fails : verdict None src.order_of_nodes ≡ []
unfolding nodes failures3 digits roll-Path denote.Hole.Carrier.roll Rattle.rdl_tree.specs.declared.expr.Expr.TheBlock.hidden-the_row-Step-1 denote.Hole.Carrier.hidden Rattle.rdl_tree.specs.declared.item.Item.TheBlock.hidden-the_row-Item-0
order_of_nodes_fails = refl

-- an alias beside its primary and an array
alias_beside_fails : verdict None src.alias_beside ≡ []
unfolding nodes failures3 digits roll-Path denote.Hole.Carrier.roll Rattle.rdl_tree.specs.declared.expr.Expr.TheBlock.hidden-the_row-Step-1 denote.Hole.Carrier.hidden Rattle.rdl_tree.specs.declared.item.Item.TheBlock.hidden-the_row-Item-0
alias_beside_fails = refl

-- Which nodes there are, in order.

-- the path texts of all nodes; the top's is empty
abbrev texts : Option (List ℕ) → Source → List (List ℕ)
texts wanted s = map (λ n. path_text n.path) (nodes wanted s)

-- the values of their parameters
abbrev bounds : Source → List (List (List ℕ × Val))
bounds s = map (λ n. n.bound) (nodes None s)

-- a signal at the root and a node under the top differ, though both are named alike
abbrev paths : Source → List Path
paths s = map (λ n. n.path) (nodes None s)

one_nodes : texts None src.one ≡ [] ∷ codes "a" ∷ codes "a$f" ∷ []
unfolding nodes failures3 digits roll-Path denote.Hole.Carrier.roll Rattle.rdl_tree.specs.declared.expr.Expr.TheBlock.hidden-the_row-Step-1 denote.Hole.Carrier.hidden Rattle.rdl_tree.specs.declared.item.Item.TheBlock.hidden-the_row-Item-0
one_nodes = refl

-- a top of another name than the one that is wanted is none
one_not_z : verdict (Some (codes "z")) src.one ≡ at_ rules.E1 (at 0) ∷ []
unfolding nodes failures3 digits roll-Path denote.Hole.Carrier.roll Rattle.rdl_tree.specs.declared.expr.Expr.TheBlock.hidden-the_row-Step-1 denote.Hole.Carrier.hidden Rattle.rdl_tree.specs.declared.item.Item.TheBlock.hidden-the_row-Item-0
one_not_z = refl

one_without_top : texts (Some (codes "z")) src.one ≡ []
unfolding nodes failures3 digits roll-Path denote.Hole.Carrier.roll Rattle.rdl_tree.specs.declared.expr.Expr.TheBlock.hidden-the_row-Step-1 denote.Hole.Carrier.hidden Rattle.rdl_tree.specs.declared.item.Item.TheBlock.hidden-the_row-Item-0
one_without_top = refl

-- without a name the last address map is the top; with one the first of that name, whatever rule E2 says of the second
last_is_top : texts None src.three_tops ≡ [] ∷ codes "z" ∷ []
unfolding nodes failures3 digits roll-Path denote.Hole.Carrier.roll Rattle.rdl_tree.specs.declared.expr.Expr.TheBlock.hidden-the_row-Step-1 denote.Hole.Carrier.hidden Rattle.rdl_tree.specs.declared.item.Item.TheBlock.hidden-the_row-Item-0
last_is_top = refl

first_of_name_is_top : texts (Some (codes "a")) src.three_tops ≡ [] ∷ codes "x" ∷ []
unfolding nodes failures3 digits roll-Path denote.Hole.Carrier.roll Rattle.rdl_tree.specs.declared.expr.Expr.TheBlock.hidden-the_row-Step-1 denote.Hole.Carrier.hidden Rattle.rdl_tree.specs.declared.item.Item.TheBlock.hidden-the_row-Item-0
first_of_name_is_top = refl

wanted_is_top : texts (Some (codes "b")) src.three_tops ≡ [] ∷ codes "y" ∷ []
unfolding nodes failures3 digits roll-Path denote.Hole.Carrier.roll Rattle.rdl_tree.specs.declared.expr.Expr.TheBlock.hidden-the_row-Step-1 denote.Hole.Carrier.hidden Rattle.rdl_tree.specs.declared.item.Item.TheBlock.hidden-the_row-Item-0
wanted_is_top = refl

-- a register is no top
register_is_no_top : verdict (Some (codes "c")) src.three_tops ≡ at_ rules.E1 (at 0) ∷ at_ rules.E2 (at 58) ∷ []
unfolding nodes failures3 digits roll-Path denote.Hole.Carrier.roll Rattle.rdl_tree.specs.declared.expr.Expr.TheBlock.hidden-the_row-Step-1 denote.Hole.Carrier.hidden Rattle.rdl_tree.specs.declared.item.Item.TheBlock.hidden-the_row-Item-0
register_is_no_top = refl

-- elements in row order, the last index fastest, each before its field
elements_in_order : texts None src.parameters_and_arrays ≡ [] ∷ codes "a$0$0" ∷ codes "a$0$0$f" ∷ codes "a$0$1" ∷ codes "a$0$1$f" ∷ codes "a$1$0" ∷ codes "a$1$0$f" ∷ codes "a$1$1" ∷ codes "a$1$1$f" ∷ []
unfolding nodes failures3 digits roll-Path denote.Hole.Carrier.roll Rattle.rdl_tree.specs.declared.expr.Expr.TheBlock.hidden-the_row-Step-1 denote.Hole.Carrier.hidden Rattle.rdl_tree.specs.declared.item.Item.TheBlock.hidden-the_row-Item-0
elements_in_order = refl

seven : List (List ℕ × Val)
seven = (codes "W", number 7) ∷ (codes "z", flag true) ∷ []

-- the arguments are 1 + 2 * 3, and 2 where a boolean is wanted
arguments_have_values : bounds src.parameters_and_arrays ≡ [] ∷ seven ∷ [] ∷ seven ∷ [] ∷ seven ∷ [] ∷ seven ∷ [] ∷ []
unfolding nodes failures3 digits roll-Path denote.Hole.Carrier.roll Rattle.rdl_tree.specs.declared.expr.Expr.TheBlock.hidden-the_row-Step-1 denote.Hole.Carrier.hidden Rattle.rdl_tree.specs.declared.item.Item.TheBlock.hidden-the_row-Item-0 seven
arguments_have_values = refl

signals_first : paths src.order_of_nodes ≡ of_signal (step (codes "g")) ∷ of_signal (step (codes "a")) ∷ below_top [] ∷ below_top (element (codes "a") 0 ∷ []) ∷ below_top (element (codes "a") 0 ∷ step (codes "f") ∷ []) ∷ below_top (element (codes "a") 0 ∷ step (codes "s") ∷ []) ∷ below_top (element (codes "a") 1 ∷ []) ∷ below_top (element (codes "a") 1 ∷ step (codes "f") ∷ []) ∷ below_top (element (codes "a") 1 ∷ step (codes "s") ∷ []) ∷ below_top (step (codes "b") ∷ []) ∷ below_top (step (codes "b") ∷ step (codes "c") ∷ []) ∷ below_top (step (codes "b") ∷ step (codes "c") ∷ step (codes "f") ∷ []) ∷ below_top (step (codes "b") ∷ step (codes "c") ∷ step (codes "s") ∷ []) ∷ []
unfolding nodes failures3 digits roll-Path denote.Hole.Carrier.roll Rattle.rdl_tree.specs.declared.expr.Expr.TheBlock.hidden-the_row-Step-1 denote.Hole.Carrier.hidden Rattle.rdl_tree.specs.declared.item.Item.TheBlock.hidden-the_row-Item-0
signals_first = refl

first_definition_is_used : texts None src.first_of_a_name ≡ [] ∷ codes "a" ∷ codes "a$g" ∷ codes "b" ∷ codes "b$f" ∷ []
unfolding nodes failures3 digits roll-Path denote.Hole.Carrier.roll Rattle.rdl_tree.specs.declared.expr.Expr.TheBlock.hidden-the_row-Step-1 denote.Hole.Carrier.hidden Rattle.rdl_tree.specs.declared.item.Item.TheBlock.hidden-the_row-Item-0
first_definition_is_used = refl

nearer_is_used : texts None src.nearer_definitions ≡ [] ∷ codes "a" ∷ codes "a$f" ∷ codes "b" ∷ codes "b$g" ∷ codes "e" ∷ codes "e$c" ∷ codes "e$c$g" ∷ codes "e$d" ∷ codes "e$d$h" ∷ []
unfolding nodes failures3 digits roll-Path denote.Hole.Carrier.roll Rattle.rdl_tree.specs.declared.expr.Expr.TheBlock.hidden-the_row-Step-1 denote.Hole.Carrier.hidden Rattle.rdl_tree.specs.declared.item.Item.TheBlock.hidden-the_row-Item-0
nearer_is_used = refl

-- R's n is 2 or n + 3 of G's n, which is 5, and m is the n before it; Q's m is G's n, since its own n comes later
nearer_values : bounds src.nearer_parameters ≡ [] ∷ ((codes "n", number 5) ∷ []) ∷ ((codes "n", number 2) ∷ (codes "m", number 2) ∷ []) ∷ ((codes "n", number 8) ∷ (codes "m", number 8) ∷ []) ∷ ((codes "m", number 5) ∷ (codes "n", number 7) ∷ []) ∷ []
unfolding nodes failures3 digits roll-Path denote.Hole.Carrier.roll Rattle.rdl_tree.specs.declared.expr.Expr.TheBlock.hidden-the_row-Step-1 denote.Hole.Carrier.hidden Rattle.rdl_tree.specs.declared.item.Item.TheBlock.hidden-the_row-Item-0
nearer_values = refl

enum_values : bounds src.nearer_enums ≡ [] ∷ ((codes "n", number 1) ∷ []) ∷ ((codes "n", number 2) ∷ []) ∷ []
unfolding nodes failures3 digits roll-Path denote.Hole.Carrier.roll Rattle.rdl_tree.specs.declared.expr.Expr.TheBlock.hidden-the_row-Step-1 denote.Hole.Carrier.hidden Rattle.rdl_tree.specs.declared.item.Item.TheBlock.hidden-the_row-Item-0
enum_values = refl

counted_values : bounds src.counted_enums ≡ [] ∷ ((codes "n", number 1) ∷ []) ∷ ((codes "n", number 8) ∷ []) ∷ ((codes "n", number 9) ∷ []) ∷ []
unfolding nodes failures3 digits roll-Path denote.Hole.Carrier.roll Rattle.rdl_tree.specs.declared.expr.Expr.TheBlock.hidden-the_row-Step-1 denote.Hole.Carrier.hidden Rattle.rdl_tree.specs.declared.item.Item.TheBlock.hidden-the_row-Item-0
counted_values = refl

-- of two entries of one name the first is meant; the third counts on from the second
first_entry_is_meant : bounds src.bad_enums ≡ [] ∷ ((codes "n", number 0) ∷ []) ∷ ((codes "n", number 6) ∷ []) ∷ []
unfolding nodes failures3 digits roll-Path denote.Hole.Carrier.roll Rattle.rdl_tree.specs.declared.expr.Expr.TheBlock.hidden-the_row-Step-1 denote.Hole.Carrier.hidden Rattle.rdl_tree.specs.declared.item.Item.TheBlock.hidden-the_row-Item-0
first_entry_is_meant = refl

-- what fails rule E12 is a node all the same
bad_forms_are_nodes : texts None src.bad_forms ≡ [] ∷ codes "a" ∷ codes "b" ∷ codes "c" ∷ codes "c$a" ∷ codes "c$b" ∷ codes "c$c" ∷ codes "c$d" ∷ codes "c$e" ∷ codes "c$f" ∷ codes "c$g" ∷ codes "c$h" ∷ codes "c$i" ∷ codes "d" ∷ codes "e" ∷ codes "f$0" ∷ codes "f$1" ∷ codes "g$0" ∷ []
unfolding nodes failures3 digits roll-Path denote.Hole.Carrier.roll Rattle.rdl_tree.specs.declared.expr.Expr.TheBlock.hidden-the_row-Step-1 denote.Hole.Carrier.hidden Rattle.rdl_tree.specs.declared.item.Item.TheBlock.hidden-the_row-Item-0
bad_forms_are_nodes = refl

-- what fails rule E10 is none; eight dimensions of one element are one
bad_arrays_are_none : texts None src.bad_arrays ≡ [] ∷ codes "a" ∷ codes "a$f" ∷ codes "a$i" ∷ codes "e$0$0$0$0$0$0$0$0" ∷ codes "e$0$0$0$0$0$0$0$0$f" ∷ codes "e$0$0$0$0$0$0$0$0$i" ∷ []
unfolding nodes failures3 digits roll-Path denote.Hole.Carrier.roll Rattle.rdl_tree.specs.declared.expr.Expr.TheBlock.hidden-the_row-Step-1 denote.Hole.Carrier.hidden Rattle.rdl_tree.specs.declared.item.Item.TheBlock.hidden-the_row-Item-0
bad_arrays_are_none = refl

-- nor is what is held where it may not be, or named twice, or a bad alias
held_nodes : texts None src.what_holds_what ≡ codes "g" ∷ codes "h" ∷ [] ∷ codes "b" ∷ codes "b$c" ∷ codes "b$d" ∷ codes "b$d$d" ∷ codes "b$d$e" ∷ codes "b$e" ∷ codes "c" ∷ codes "d" ∷ codes "e" ∷ []
unfolding nodes failures3 digits roll-Path denote.Hole.Carrier.roll Rattle.rdl_tree.specs.declared.expr.Expr.TheBlock.hidden-the_row-Step-1 denote.Hole.Carrier.hidden Rattle.rdl_tree.specs.declared.item.Item.TheBlock.hidden-the_row-Item-0
held_nodes = refl

aliases_are_nodes : texts None src.bad_aliases ≡ [] ∷ codes "p" ∷ codes "p$f" ∷ codes "v$0" ∷ codes "v$0$f" ∷ codes "d" ∷ codes "d$f" ∷ codes "g" ∷ codes "g$a" ∷ codes "g$a$f" ∷ codes "k" ∷ codes "k$f" ∷ codes "l" ∷ codes "l$f" ∷ codes "m" ∷ codes "m$f" ∷ []
unfolding nodes failures3 digits roll-Path denote.Hole.Carrier.roll Rattle.rdl_tree.specs.declared.expr.Expr.TheBlock.hidden-the_row-Step-1 denote.Hole.Carrier.hidden Rattle.rdl_tree.specs.declared.item.Item.TheBlock.hidden-the_row-Item-0
aliases_are_nodes = refl

-- How many nodes there are; without a top the root's signals alone.

one_measured : measured None src.one ≡ 3
unfolding nodes failures3 digits roll-Path denote.Hole.Carrier.roll Rattle.rdl_tree.specs.declared.expr.Expr.TheBlock.hidden-the_row-Step-1 denote.Hole.Carrier.hidden Rattle.rdl_tree.specs.declared.item.Item.TheBlock.hidden-the_row-Item-0
one_measured = refl

signals_measured : measured (Some (codes "z")) src.order_of_nodes ≡ 2
unfolding nodes failures3 digits roll-Path denote.Hole.Carrier.roll Rattle.rdl_tree.specs.declared.expr.Expr.TheBlock.hidden-the_row-Step-1 denote.Hole.Carrier.hidden Rattle.rdl_tree.specs.declared.item.Item.TheBlock.hidden-the_row-Item-0
signals_measured = refl

-- Limits.

-- 64 parameters are not too many
enough_parameters : verdict None (src.with_parameters 64) ≡ at_ rules.E4 (at 9) ∷ []
unfolding nodes failures3 digits roll-Path denote.Hole.Carrier.roll Rattle.rdl_tree.specs.declared.expr.Expr.TheBlock.hidden-the_row-Step-1 denote.Hole.Carrier.hidden Rattle.rdl_tree.specs.declared.item.Item.TheBlock.hidden-the_row-Item-0
enough_parameters = refl

-- 65 are, at the definition's place at every use, whatever else fails
many_parameters : verdict None (src.with_parameters 65) ≡ at_ rules.E7 (at 4) ∷ at_ rules.E4 (at 9) ∷ []
unfolding nodes failures3 digits roll-Path denote.Hole.Carrier.roll Rattle.rdl_tree.specs.declared.expr.Expr.TheBlock.hidden-the_row-Step-1 denote.Hole.Carrier.hidden Rattle.rdl_tree.specs.declared.item.Item.TheBlock.hidden-the_row-Item-0
many_parameters = refl

-- 32 names below the root, the top's and the register's among them
enough_names : verdict None (src.deep 30) ≡ []
unfolding nodes failures3 digits roll-Path denote.Hole.Carrier.roll Rattle.rdl_tree.specs.declared.expr.Expr.TheBlock.hidden-the_row-Step-1 denote.Hole.Carrier.hidden Rattle.rdl_tree.specs.declared.item.Item.TheBlock.hidden-the_row-Item-0
enough_names = refl

many_names : verdict None (src.deep 31) ≡ at_ rules.E8 (at 2) ∷ []
unfolding nodes failures3 digits roll-Path denote.Hole.Carrier.roll Rattle.rdl_tree.specs.declared.expr.Expr.TheBlock.hidden-the_row-Step-1 denote.Hole.Carrier.hidden Rattle.rdl_tree.specs.declared.item.Item.TheBlock.hidden-the_row-Item-0
many_names = refl

-- the last element's path text counts; it has one beside nine dimensions, and none beside a dimension of 0 or without a value
long_paths_fail : verdict None src.long_paths ≡ at_ rules.E11 (at 20) ∷ at_ rules.E11 (at 40) ∷ at_ rules.E10 (at 50) ∷ at_ rules.E11 (at 50) ∷ at_ rules.E10 (at 60) ∷ at_ rules.V1 (at 71) ∷ []
unfolding nodes failures3 digits roll-Path denote.Hole.Carrier.roll Rattle.rdl_tree.specs.declared.expr.Expr.TheBlock.hidden-the_row-Step-1 denote.Hole.Carrier.hidden Rattle.rdl_tree.specs.declared.item.Item.TheBlock.hidden-the_row-Item-0
long_paths_fail = refl

-- the top has no path text
long_top_stands : verdict None src.long_top ≡ []
unfolding nodes failures3 digits roll-Path denote.Hole.Carrier.roll Rattle.rdl_tree.specs.declared.expr.Expr.TheBlock.hidden-the_row-Step-1 denote.Hole.Carrier.hidden Rattle.rdl_tree.specs.declared.item.Item.TheBlock.hidden-the_row-Item-0
long_top_stands = refl
