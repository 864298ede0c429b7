-- Tables of the parameters that a default names.
use Rattle.std.specs.Prelude.{◌≡◌, ℕ, List, [], ◌∷◌, ◌++◌, cond, Option, Some, is_some, MatchOption}
use Rattle.std.specs.List.{AllByRecursion}
use Rattle.rdl_tree.specs.declared.expr.Expr.{Expr}
use Rattle.rdl_tree.specs.declared.expr.Name.{Name}
use Rattle.rdl_tree.specs.declared.item.Param.{Param}
use Rattle.rdl_values.specs.Parameters.{Bound, typed}
use Rattle.rdl_values.specs.Values.{Around, Names, Val, entry_named}

-- what the one list has under a name, the other has
abbrev pub IsPart : Bound → Bound → Type 0
IsPart these those = (n : List ℕ) (v : Val) → entry_named n these ≡ Some v → entry_named n those ≡ Some v

-- Some parameters were put in that have these names, and of those alone that are bound.
pub record Reads (bound : Bound) (ns : List Name) (old new : Bound) : Type 0 where
  pub grown : IsPart old new
  pub part : IsPart old bound → IsPart new bound
  pub same : IsPart old bound → AllByRecursion (λ n. entry_named n.text.now new ≡ entry_named n.text.now bound) ns

-- An expression's value as a parameter is the same behind these as behind all that are bound.
abbrev pub AreReads : Bound → Expr → Names → Type 0
AreReads bound e table = (outer : Around) (p : Param) → typed (table ∷ outer) p e ≡ typed ((record { bound = bound; enums = [] }) ∷ outer) p e

-- a value was put behind the others, if there is one and none has its name
abbrev pub IsAdded : List ℕ → Option Val → Bound → Bound → Type 0
IsAdded n o old new = MatchOption o (new ≡ old) (λ v. new ≡ cond (is_some (entry_named n old)) old (old ++ ((n, v) ∷ [])))

-- A table without enumerations, in which each name has the value that it has among these.
pub record IsLike (table : Names) (bound : Bound) : Type 0 where
  pub enums : table.enums ≡ []
  pub same : (n : List ℕ) → entry_named n table.bound ≡ entry_named n bound
