-- What an operator makes of the values of its operands. The operators are those of SystemRDL 2.0, annex B; that they work
-- over whole numbers, and when they fail, is this project's rule. Each failure stands at the operator. Of the two operands
-- the types are judged first (V2), then a divisor of 0 (V4), then the range of the result (V3).
use Rattle.std.specs.Prelude.{ℕ, ◌+◌, ◌-◌, ◌*◌, ◌/◌, ◌%◌, ◌^◌, Bool, true, false, not, ◌&&◌, ◌||◌, cond, nat_lt, nat_le, ◌==◌, bytes_eq, bit_and, bit_or, bit_xor, Option, None, Some, Ok}
use Rattle.rb_base.specs.declared.place.Place.{Place}
use Rattle.rdl_base.specs.declared.rule.Rule.TheVariants as rules
use Rattle.rdl_tree.specs.declared.expr.Op.{Op}
use Rattle.rdl_tree.specs.declared.expr.Op.TheVariants as op
use Rattle.rdl_values.specs.Constants.{Val, number, flag, text, as_number, as_flag, Outcome, fails, then, or_fails}

-- a number, which is out of range from 2^64 on
abbrev pub within : Place → ℕ → Outcome Val
within p n = cond (nat_lt n (2 ^ 64)) (Ok (number n)) (fails rules.V3 p)

-- a whole number less another, which is out of range below 0
abbrev pub difference : Place → ℕ → ℕ → Outcome Val
difference p m n = cond (nat_lt m n) (fails rules.V3 p) (Ok (number (m - n)))

-- a result that no divisor of 0 has
abbrev pub divided : Place → ℕ → ℕ → Outcome Val
divided p divisor n = cond (divisor == 0) (fails rules.V4 p) (Ok (number n))

-- an operator whose operands are numbers
abbrev pub numbers : Place → Val → Val → (ℕ → ℕ → Outcome Val) → Outcome Val
numbers p x y f = then (or_fails (as_number x) rules.V2 p) λ m. then (or_fails (as_number y) rules.V2 p) λ n. f m n

-- an operator whose operands are booleans
abbrev pub flags : Place → Val → Val → (Bool → Bool → Bool) → Outcome Val
flags p x y f = then (or_fails (as_flag x) rules.V2 p) λ a. then (or_fails (as_flag y) rules.V2 p) λ b. Ok (flag (f a b))

abbrev pub same_bool : Bool → Bool → Bool
same_bool true b = b
same_bool false b = not b

-- Whether two values of one type are equal. Nothing converts here.
abbrev pub same : Val → Val → Option Bool
same (number m) (number n) = Some (m == n)
same (flag a) (flag b) = Some (same_bool a b)
same (text s) (text t) = Some (bytes_eq s t)
same _ _ = None

-- an operator whose operands are of one type
abbrev pub alike : Place → Val → Val → (Bool → Bool) → Outcome Val
alike p x y f = then (or_fails (same x y) rules.V2 p) λ b. Ok (flag (f b))

-- The table of operators. `/` and `>>` round down, `x ** 0` is 1, and `&&` and `||` have both sides.
abbrev pub applied : Op → Place → Val → Val → Outcome Val
applied op.OrElse p x y = flags p x y λ a b. a || b
applied op.AndAlso p x y = flags p x y λ a b. a && b
applied op.Or p x y = numbers p x y λ m n. Ok (number (bit_or m n))
applied op.Xor p x y = numbers p x y λ m n. Ok (number (bit_xor m n))
applied op.And p x y = numbers p x y λ m n. Ok (number (bit_and m n))
applied op.Eq p x y = alike p x y λ b. b
applied op.Ne p x y = alike p x y λ b. not b
applied op.Lt p x y = numbers p x y λ m n. Ok (flag (nat_lt m n))
applied op.Le p x y = numbers p x y λ m n. Ok (flag (nat_le m n))
applied op.Gt p x y = numbers p x y λ m n. Ok (flag (nat_lt n m))
applied op.Ge p x y = numbers p x y λ m n. Ok (flag (nat_le n m))
applied op.Shl p x y = numbers p x y λ m n. within p (m * 2 ^ n)
applied op.Shr p x y = numbers p x y λ m n. Ok (number (m / 2 ^ n))
applied op.Add p x y = numbers p x y λ m n. within p (m + n)
applied op.Sub p x y = numbers p x y λ m n. difference p m n
applied op.Mul p x y = numbers p x y λ m n. within p (m * n)
applied op.Div p x y = numbers p x y λ m n. divided p n (m / n)
applied op.Rem p x y = numbers p x y λ m n. divided p n (m % n)
applied op.Pow p x y = numbers p x y λ m n. within p (m ^ n)
