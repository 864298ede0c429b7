-- The greatest numbers of enumerations.
use Rattle.std.specs.Prelude.{◌≡◌, ℕ, Bool, false, nat_le, List, [], ◌∷◌, map, Option, None, Some, slice_get}
use Rattle.std.specs.List.{list_any}
use Rattle.rdl_tree.specs.declared.value.EnumValues.{EnumValues}
use Rattle.rdl_values.specs.Seen.{entry_of}
use Rattle.rdl_facts.specs.declared.greatest.Greatest.{Greatest}

-- the number is there, and at least this
abbrev pub reaches : Option ℕ → ℕ → Bool
reaches None m = false
reaches (Some g) m = nat_le m g

-- The greatest of the numbers of these entries, if there are any: one of them is at least a number exactly where it is.
pub record IsGreatest (g : Option ℕ) (entries : List (List ℕ × ℕ)) : Type 0 where
  pub reached : (m : ℕ) → list_any (λ e. nat_le m e.1) entries ≡ reaches g m

-- what stands in a list, if it has anything there
abbrev pub if_there : Option (Option ℕ) → Option ℕ
if_there None = None
if_there (Some o) = o

-- the greatest number of the enumeration of a number
abbrev pub greatest_at : Greatest → ℕ → Option ℕ
greatest_at g k = if_there (slice_get g.numbers.items k)

-- each is that of its enumeration
abbrev pub AreEach : List (Option ℕ) → List EnumValues → Type 0
AreEach [] [] = Unit {0}
AreEach (g ∷ gs) (e ∷ es) = IsGreatest g (map entry_of e.entries.now) × AreEach gs es
AreEach _ _ = ⊥

-- They are those of these enumerations.
abbrev pub AreGreatest : Greatest → List EnumValues → Type 0
AreGreatest g es = AreEach g.numbers.items es
