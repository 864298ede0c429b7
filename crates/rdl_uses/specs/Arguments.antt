-- What a table of arguments has, and the parameters that a use with them touches.
use Rattle.std.specs.Prelude.{◌≡◌, ℕ, ◌<◌, ◌≤◌, Bool, true, false, List, [], map, Option, None, Some, MatchOption, bytes_eq, is_some, slice_get, take}
use Rattle.std.specs.List.{AllByRecursion, list_any, position_from}
use Rattle.rdl_tree.specs.declared.item.Arg.{Arg}
use Rattle.rdl_tree.specs.declared.item.Param.{Param}
use Rattle.rdl_values.specs.Firsts.{AreFirsts}
use Rattle.rdl_values.specs.Overlaid.{IsKept, Plain, names_of, overlaid, plain_of, plain_value}
use Rattle.rdl_values.specs.Parameters.{Bound, argument}
use Rattle.rdl_values.specs.Places.{has_place, is_found}
use Rattle.rdl_values.specs.declared.places.Places.{Places}
use Rattle.rdl_uses.specs.Bound.{names_of_args}
use Rattle.rdl_uses.specs.declared.arguments.Arguments.{Arguments}

-- at this place stands the first parameter of some argument's name
abbrev pub is_given : Plain → List Arg → ℕ → Bool
is_given xs args k = list_any (λ a. is_found (position_from (λ m. bytes_eq m a.name.text.now) 0 (map (λ x. x.0) xs)) k) args

-- these, the first of each name under it, and the places of the parameters that they are given to
pub record AreArguments (a : Arguments) (ps : List Param) (args : List Arg) : Type 0 where
  pub list : a.list.now ≡ args
  pub places : AreFirsts a.places (names_of_args args)
  pub given : (k : ℕ) → has_place a.given k ≡ is_given (plain_of ps) args k

-- A parameter has no argument and a value by the text, and is not due.
pub record IsPlain (args : List Arg) (ps : List Param) (due : Places) (k : ℕ) (p : Param) : Type 0 where
  pub none : argument args p.name ≡ None
  pub plain : is_some (plain_value (overlaid (take k (plain_of ps)) []) p) ≡ true
  pub not_due : has_place due k ≡ false

-- all of them from one place on up to another
abbrev pub ArePlain : List Arg → List Param → Places → ℕ → ℕ → Type 0
ArePlain args ps due from upto = (k : ℕ) (p : Param) → from ≤ k → k < upto → slice_get ps k ≡ Some p → IsPlain args ps due k p

-- the first that is none from one place on up to another, if there is one
abbrev pub IsNextTouched : List Arg → List Param → Places → ℕ → ℕ → Option ℕ → Type 0
IsNextTouched args ps due from upto o = MatchOption o (ArePlain args ps due from upto) (λ at. ArePlain args ps due from at)

-- From a place on each parameter is due, or its default names nothing over which another value is put than the text's.
abbrev pub AreDue : List Param → Bound → Places → ℕ → Type 0
AreDue ps touched due from = (k : ℕ) (p : Param) → from ≤ k → slice_get ps k ≡ Some p → has_place due k ≡ false → AllByRecursion (λ n. IsKept (plain_of ps) touched n.text.now) (names_of p.default)
