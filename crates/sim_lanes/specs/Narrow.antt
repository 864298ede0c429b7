-- Operations over values of at most 64 bits.
use Rattle.std.specs.Prelude.{ℕ, ◌+◌, ◌-◌, ◌*◌, ◌/◌, ◌<◌, ◌%◌, ◌^◌, ◌==◌, if◌then◌else◌, bit_and, bit_or, bit_xor, List, [], ◌∷◌, ◌++◌, length, slice_index, slice_index_or}
use Rattle.v_design.specs.declared.design.VOne.TheVariants as before
use Rattle.v_design.specs.declared.design.VTwo.TheVariants as between
use Rattle.v_design.specs.Expr.{value_under, value_over}
use Rattle.sim_lanes.specs.declared.narrow.Kind.{Kind}
use Rattle.sim_lanes.specs.declared.narrow.Kind.TheVariants.{Part, Join, Not, All, Any, Odd, Add, Sub, And, Or, Xor, Eq, Ne, Lt, Le, Gt, Ge, Pick, Guard}
use Rattle.sim_lanes.specs.declared.narrow.NarrowOperation.{NarrowOperation}

-- what an operation of a kind, of a lowest bit and a width, gives of three values
abbrev pub value_by_kind : Kind → ℕ → ℕ → ℕ → ℕ → ℕ → ℕ
value_by_kind Part low width a b c = a / 2 ^ low % 2 ^ width
value_by_kind Join low width a b c = (a * 2 ^ low + b) % 2 ^ 128 % 2 ^ width
value_by_kind Not low width a b c = value_under before.Not width a
value_by_kind All low width a b c = value_under before.All width a
value_by_kind Any low width a b c = value_under before.Any width a
value_by_kind Odd low width a b c = value_under before.Odd width a
value_by_kind Add low width a b c = (a + b) % 2 ^ 128 % 2 ^ width
value_by_kind Sub low width a b c = (a + 2 ^ 128 - b) % 2 ^ 128 % 2 ^ width
value_by_kind And low width a b c = bit_and a b
value_by_kind Or low width a b c = bit_or a b
value_by_kind Xor low width a b c = bit_xor a b
value_by_kind Eq low width a b c = value_over between.Eq width a b
value_by_kind Ne low width a b c = value_over between.Ne width a b
value_by_kind Lt low width a b c = value_over between.Lt width a b
value_by_kind Le low width a b c = value_over between.Le width a b
value_by_kind Gt low width a b c = value_over between.Gt width a b
value_by_kind Ge low width a b c = value_over between.Ge width a b
value_by_kind Pick low width a b c = if a == 0 then c else b
value_by_kind Guard low width a b c = if a == 1 then c else b

-- the value that an operation gives, over the values of the places before it
abbrev pub value_at : List ℕ → NarrowOperation → ℕ
value_at vs o = value_by_kind o.kind o.low.bits o.width.bits (slice_index vs o.first) (slice_index vs o.second) (slice_index vs o.third)

-- an operation reads places below a limit alone
pub record IsBelow (limit : ℕ) (o : NarrowOperation) : Type 0 where
  pub first : o.first < limit
  pub second : o.second < limit
  pub third : o.third < limit

-- each operation reads places before its own, where the first one's has this number
pub record AreBelow (first : ℕ) (os : List NarrowOperation) : Type 0 where
  pub each : (k : ℕ) (d : NarrowOperation) → k < length os → IsBelow (first + k) (slice_index_or os k d)

-- the values of all places: those given, and then those of the operations in turn
unfoldable pub narrow_after : List NarrowOperation → List ℕ → List ℕ
narrow_after [] vs = vs
narrow_after (o ∷ os) vs = narrow_after os (vs ++ (value_at vs o ∷ []))
