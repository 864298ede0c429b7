-- What a constant expression means: its value, or its first failure.
use Rattle.std.specs.Prelude.{ℕ, not, cond, List, [], ◌∷◌, Option, None, Some, Ok}
use Rattle.rb_base.specs.declared.place.Place.{Place}
use Rattle.rdl_base.specs.declared.rule.Rule.TheVariants as rules
use Rattle.rdl_tree.specs.declared.expr.Expr.{Expr, Number, Flag, Str, Ref, EntryOf, Not', Binary', Pick'}
use Rattle.rdl_tree.specs.declared.expr.Path.{Path}
use Rattle.rdl_tree.specs.declared.expr.Step.{Step}
use Rattle.rdl_tree.specs.declared.expr.Name.{Name}
use Rattle.rdl_values.specs.Views.{steps_of}
pub use Rattle.rdl_values.specs.Constants.{Val, number, flag, text, as_number, as_flag, as_text, as_type, Outcome, fails, then, or_fails}
pub use Rattle.rdl_values.specs.Operators.{applied}
pub use Rattle.rdl_values.specs.Visible.{EnumOf, Names, Around, nearest, entry_named, parameter, parameter_of, visible_enum, entry_value}

-- the name that a path of one bare name is
abbrev pub bare : List Step → Option Name
bare [] = None
bare (s ∷ []) = bare_step s s.index.now
  where
    bare_step : Step → List Expr → Option Name
    bare_step s [] = Some s.name
    bare_step s (e ∷ es) = None
bare (s ∷ t ∷ ss) = None

-- the same, where no `->` and item follow
abbrev pub bare_name : Path → Option Name → Option Name
bare_name p None = bare (steps_of p)
bare_name p (Some item) = None

-- where a path's first name stands
abbrev pub path_place : List Step → Place
path_place [] = record { 0 = 0 }
path_place (s ∷ ss) = s.name.place

-- where an expression begins, opening round brackets passed over
abbrev pub start : Expr → Place
start (Number n p) = p
start (Flag b p) = p
start (Str s p) = p
start (Ref path item) = path_place (steps_of path)
start (EntryOf e n) = e.place
start (Not' q e p) = p
start (Binary' o q a r b p) = start a
start (Pick' q c r a s b p) = start c

-- The value in these bodies, or the first failure: operands before their operator, the left one first. A path that is no
-- visible parameter is an unknown name (V1), an operand that is no boolean is of the wrong type at `!` or `?` (V2), and of
-- the sides of `? :` the chosen one alone has a value.
abbrev pub value_of : Around → Expr → Outcome Val
value_of around (Number n p) = Ok (number n)
value_of around (Flag b p) = Ok (flag b)
value_of around (Str s p) = Ok (text s.now)
value_of around (Ref path item) = or_fails (parameter_of around (bare_name path item)) rules.V1 (path_place (steps_of path))
value_of around (EntryOf e n) = entry_value around e n
value_of around (Not' q e p) = then (value_of around e) λ x. then (or_fails (as_flag x) rules.V2 p) λ b. Ok (flag (not b))
value_of around (Binary' o q a r b p) = then (value_of around a) λ x. then (value_of around b) λ y. applied o p x y
value_of around (Pick' q c r a s b p) = then (value_of around c) λ x. then (or_fails (as_flag x) rules.V2 p) λ t. cond t (value_of around a) (value_of around b)

-- the number of an expression where one is wanted, else the wrong type at its start
abbrev pub number_of : Around → Expr → Outcome ℕ
number_of around e = then (value_of around e) λ v. or_fails (as_number v) rules.V2 (start e)
