-- What means the same in all bodies.
use Rattle.std.specs.Prelude.{◌≡◌, ℕ, List, Option}
use Rattle.rdl_tree.specs.declared.expr.Expr.{Expr}
use Rattle.rdl_tree.specs.declared.item.Entry.{Entry}
use Rattle.rdl_values.specs.Enums.{entry_number, judged}
use Rattle.rdl_values.specs.Values.{Around, value_of}

-- an expression's value, or its first failure, is the same
abbrev pub IsClosed : Expr → Type 0
IsClosed e = (v w : Around) → value_of v e ≡ value_of w e

-- an entry's number is the same behind one of the same number
abbrev pub IsClosedEntry : Entry → Type 0
IsClosedEntry e = (v w : Around) (before : Option ℕ) → entry_number v before e ≡ entry_number w before e

-- the numbers of some entries are the same, and so is the failure of the first that has none
abbrev pub AreClosed : List Entry → Type 0
AreClosed es = (v w : Around) → judged v es ≡ judged w es
