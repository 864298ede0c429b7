-- The operations of a compiled module, each over the values of the places before it.
use Rattle.std.specs.Prelude.{ℕ, ◌+◌, ◌*◌, ◌-◌, ◌/◌, ◌%◌, ◌^◌, Bool, true, ◌&&◌, ◌==◌, nat_lt, nat_le, if◌then◌else◌, List, [], ◌∷◌, ◌++◌, map, bit_and, bit_or, bit_xor, slice_index}
use Rattle.std.specs.List.{list_all}
use Rattle.v_design.specs.declared.design.VTwo.TheVariants.{Add, Sub, And, Or, Xor, Eq, Ne, Lt, Le, Gt, Ge}
use Rattle.v_design.specs.declared.design.VTwo.{VTwo}
use Rattle.v_design.specs.Expr.{value_under, value_over}
use Rattle.cyc_sim.specs.declared.operation.Operation.{Operation}
use Rattle.cyc_sim.specs.declared.operation.Operation.TheVariants.{Constant, Part, Join, One, Two, Pick, Guard}

-- an operator between operands of width w, where a sum and a difference are taken modulo 2 ^ 128 first
abbrev pub result_over : VTwo → ℕ → ℕ → ℕ → ℕ
result_over Add w a b = (a + b) % 2 ^ 128 % 2 ^ w
result_over Sub w a b = (a + 2 ^ 128 - b) % 2 ^ 128 % 2 ^ w
result_over And w a b = bit_and a b
result_over Or w a b = bit_or a b
result_over Xor w a b = bit_xor a b
result_over Eq w a b = value_over Eq w a b
result_over Ne w a b = value_over Ne w a b
result_over Lt w a b = value_over Lt w a b
result_over Le w a b = value_over Le w a b
result_over Gt w a b = value_over Gt w a b
result_over Ge w a b = value_over Ge w a b

-- the value that an operation gives, over the values of the places before it
abbrev pub value_by : List ℕ → Operation → ℕ
value_by vs (Constant v) = v
value_by vs (Part from low width) = slice_index vs from / 2 ^ low % 2 ^ width
value_by vs (Join high low width total) = (slice_index vs high * 2 ^ width + slice_index vs low) % 2 ^ 128 % 2 ^ total
value_by vs (One op width of) = value_under op width (slice_index vs of)
value_by vs (Two op width left right) = result_over op width (slice_index vs left) (slice_index vs right)
value_by vs (Pick test chosen other) = if slice_index vs test == 0 then slice_index vs other else slice_index vs chosen
value_by vs (Guard pin low value next) =
    if (if low then slice_index vs pin == 0 else slice_index vs pin == 1) then value else slice_index vs next

-- an operation reads places below a limit alone, from bits that there are
abbrev pub is_within : ℕ → Operation → Bool
is_within limit (Constant v) = true
is_within limit (Part from low width) = nat_lt from limit && nat_lt low 128
is_within limit (Join high low width total) = nat_lt high limit && nat_lt low limit
is_within limit (One op width of) = nat_lt of limit && nat_le width 128
is_within limit (Two op width left right) = nat_lt left limit && nat_lt right limit
is_within limit (Pick test chosen other) = nat_lt test limit && nat_lt chosen limit && nat_lt other limit
is_within limit (Guard pin low value next) = nat_lt pin limit && nat_lt next limit

-- each operation reads places before its own, where the first one's has this number
unfoldable pub are_within : ℕ → List Operation → Bool
are_within first [] = true
are_within first (o ∷ os) = is_within first o && are_within (first + 1) os

-- the values of all places: those given, and then those of the operations in turn
unfoldable pub values_after : List Operation → List ℕ → List ℕ
values_after [] vs = vs
values_after (o ∷ os) vs = values_after os (vs ++ (value_by vs o ∷ []))

-- the values at these places
abbrev pub values_in : List ℕ → List ℕ → List ℕ
values_in vs places = map (λ p. slice_index vs p) places

-- these are places below a limit
unfoldable pub are_places : ℕ → List ℕ → Bool
are_places limit places = list_all (λ p. nat_lt p limit) places
