-- The values of a definition's parameters: those that its text has at all uses, with those of a use put over them.
use Rattle.std.specs.Prelude.{◌≡◌, ◌⊎◌, ℕ, Bool, true, false, List, [], ◌∷◌, ◌++◌, map, flat_map, Option, None, Some, is_some, option_and_then, option_to_list, bytes_eq, slice_get, Ok, take, drop}
use Rattle.std.specs.List.{AllByRecursion, list_any}
use Rattle.std.specs.Option.{option_or}
use Rattle.std.specs.Result.{result_ok}
use Rattle.rdl_tree.specs.declared.expr.Expr.{Expr, Number, Flag, Str, Ref, EntryOf, Not', Binary', Pick'}
use Rattle.rdl_tree.specs.declared.expr.Name.{Name}
use Rattle.rdl_tree.specs.declared.item.Arg.{Arg}
use Rattle.rdl_tree.specs.declared.item.Param.{Param}
use Rattle.rdl_values.specs.Bodies.{Scope}
use Rattle.rdl_values.specs.Parameters.{Bound, argument, bound_from, typed, value_at}
use Rattle.rdl_values.specs.Uses.{Use}
use Rattle.rdl_values.specs.Values.{Around, Val, bare_name, entry_named, entry_value, parameter}

-- What a name stands for in these bodies, it stands for in those.
pub record IsBelow (these those : Around) : Type 0 where
  pub parameters : (n : List ℕ) (v : Val) → parameter these n ≡ Some v → parameter those n ≡ Some v
  pub entries : (e n : Name) (v : Val) → entry_value these e n ≡ Ok v → entry_value those e n ≡ Ok v

-- Parameters in order, each with its value at all uses that do not touch it, if it has one.
abbrev pub Plain : Type 0
Plain = List (List ℕ × Option Val)

-- what is put over a parameter, or else what it has
abbrev pub value_over : Bound → List ℕ × Option Val → Option Val
value_over touched x = option_or (entry_named x.0 touched) x.1

-- the parameters that have a value
abbrev pub overlaid : Plain → Bound → Bound
overlaid plain touched = flat_map (λ x. map (λ v. (x.0, v)) (option_to_list (value_over touched x))) plain

-- the names in an expression, and in a parameter's default
abbrev pub names_in : Expr → List Name
names_in (Number n p) = []
names_in (Flag b p) = []
names_in (Str s p) = []
names_in (Ref path item) = option_to_list (bare_name path item)
names_in (EntryOf e n) = []
names_in (Not' q e p) = names_in e
names_in (Binary' o q a r b p) = names_in a ++ names_in b
names_in (Pick' q c r a s b p) = names_in c ++ (names_in a ++ names_in b)

abbrev pub names_of : Option Expr → List Name
names_of None = []
names_of (Some e) = names_in e

-- the value that a default has where these parameters before it are visible, and nothing else
abbrev pub plain_value : Bound → Param → Option Val
plain_value before p = option_and_then (λ e. result_ok (typed (record { bound = before; enums = [] } ∷ []) p e)) p.default

-- a parameter behind others, with the value that it has by theirs
abbrev pub plain_entry : Plain → Param → List ℕ × Option Val
plain_entry before p = (p.name.text.now, plain_value (overlaid before []) p)

abbrev pub plain_from : Plain → List Param → Plain
plain_from before [] = []
plain_from before (p ∷ ps) = plain_entry before p ∷ plain_from (before ++ (plain_entry before p ∷ [])) ps

-- the parameters of a text, each with the value that its default has by the text alone
abbrev pub plain_of : List Param → Plain
plain_of ps = plain_from [] ps

-- What the one list has under these names, the other has.
abbrev pub HasThese : Bound → Bound → List Name → Type 0
HasThese these those ns = AllByRecursion (λ n. (v : Val) → entry_named n.text.now these ≡ Some v → entry_named n.text.now those ≡ Some v) ns

-- What is put over the parameter of a name, if anything is, is the value that the text has.
abbrev pub IsKept : Plain → Bound → List ℕ → Type 0
IsKept plain touched n = (w v : Val) → entry_named n touched ≡ Some w → entry_named n plain ≡ Some (Some v) → w ≡ v

-- A use does not touch the parameter at a place: it has no argument, and its default has a value by the text and names nothing that has
-- another value at the use.
pub record IsUntouched (args : List Arg) (ps : List Param) (touched : Bound) (k : ℕ) (p : Param) : Type 0 where
  pub none : argument args p.name ≡ None
  pub plain : is_some (plain_value (overlaid (take k (plain_of ps)) []) p) ≡ true
  pub kept : AllByRecursion (λ n. IsKept (plain_of ps) touched n.text.now) (names_of p.default)

-- The one list has of the other the parameters that the use touches, and perhaps more of them.
pub record HasTouched (args : List Arg) (ps : List Param) (bound touched : Bound) : Type 0 where
  pub same : (n : List ℕ) (v : Val) → entry_named n touched ≡ Some v → entry_named n bound ≡ Some v
  pub all : (k : ℕ) (p : Param) → slice_get ps k ≡ Some p → (entry_named p.name.text.now touched ≡ entry_named p.name.text.now bound) ⊎ IsUntouched args ps touched k p

-- some parameters with the values that they have
abbrev pub plain_by : List (Param × Option Val) → Plain
plain_by xs = map (λ x. (x.0.name.text.now, x.1)) xs

-- A use passes a parameter over, behind those that are bound: it has its value there, and nothing is put over it.
pub record IsPassed (u : Use) (scope : Scope) (bound touched : Bound) (p : Param) (o : Option Val) : Type 0 where
  pub value : Val
  pub plain : o ≡ Some value
  pub is : value_at u scope bound p ≡ Ok value
  pub not_put : entry_named p.name.text.now touched ≡ None

-- It passes each of these over, behind others.
abbrev pub ArePassed : Use → Scope → Bound → Plain → List (Param × Option Val) → Type 0
ArePassed u scope touched before [] = Unit {0}
ArePassed u scope touched before (x ∷ xs) = IsPassed u scope (overlaid before touched) touched x.0 x.1 × ArePassed u scope touched (before ++ ((x.0.name.text.now, x.1) ∷ [])) xs

-- no two have one name
abbrev pub AreApart : Plain → Type 0
AreApart [] = Unit {0}
AreApart (x ∷ xs) = (list_any (λ y. bytes_eq y.0 x.0) xs ≡ false) × AreApart xs

-- some parameter in front of this place has the name
abbrev pub stands_before : Plain → ℕ → List ℕ → Bool
stands_before xs place n = list_any (λ x. bytes_eq x.0 n) (take place xs)

-- A use's parameters from the front on, up to this place: what is bound there are the text's, with these put over them, and each of them
-- is bound.
pub record IsWalked (u : Use) (scope : Scope) (ps : List Param) (place : ℕ) (touched : Bound) : Type 0 where
  pub all : bound_from u scope [] ps ≡ bound_from u scope (overlaid (take place (plain_of ps)) touched) (drop place ps)
  pub names : (n : List ℕ) → stands_before (plain_of ps) place n ≡ false → list_any (λ b. bytes_eq b.0 n) touched ≡ false
  pub valued : AllByRecursion (λ x. is_some (value_over touched x) ≡ true) (take place (plain_of ps))
