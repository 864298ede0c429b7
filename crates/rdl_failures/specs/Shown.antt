-- Bodies that are shown name by name.
use Rattle.std.specs.Prelude.{◌≡◌, ℕ, List}
use Rattle.rdl_tree.specs.declared.expr.Name.{Name}
use Rattle.rdl_values.specs.Chained.{chained_in}
use Rattle.rdl_values.specs.declared.chain.Chain.{Chain}
use Rattle.rdl_values.specs.Values.{Around, entry_value, parameter}

-- In both of these bodies each name stands for the same.
pub record IsAlike (these those : Around) : Type 0 where
  pub parameters : (n : List ℕ) → parameter these n ≡ parameter those n
  pub entries : (e n : Name) → entry_value these e n ≡ entry_value those e n

-- What is visible shows these bodies.
abbrev pub IsShown : Chain → Around → Type 0
IsShown v around = IsAlike (chained_in v) around
