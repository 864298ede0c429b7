-- What tables of a body's names mean.
use Rattle.std.specs.Prelude.{ℕ, Bool, List, [], map, bytes_eq, Box, Option, None, Some}
use Rattle.std.specs.List.{IsDistinct, list_any}
use Rattle.std.specs.Borrow.{Bor}
use Rattle.std.specs.Global.{Global}
use Rattle.rdl_tree.specs.declared.value.Value.{Value}
use Rattle.rdl_values.specs.Firsts.{AreFirsts}
use Rattle.rdl_values.specs.Over.{AreShown}
use Rattle.rdl_values.specs.declared.firsts.Firsts.{Firsts}
use Rattle.rdl_values.specs.declared.parameters.Parameters.{Parameters}
use Rattle.rdl_values.specs.Seen.{val_of}
use Rattle.rdl_values.specs.Values.{Val, EnumOf, Names}

-- parameters and their values
abbrev pub bound_by : List (Bor (List ℕ) × Value) → List (List ℕ × Val)
bound_by es = map (λ e. (e.0.now, val_of e.1)) es

-- entries and their numbers
abbrev pub entries_by : List (Bor (List ℕ) × ℕ) → List (List ℕ × ℕ)
entries_by es = map (λ e. (e.0.now, e.1)) es

-- the names of a table
abbrev pub keys_of : {X : Type 0} → List (Bor (List ℕ) × X) → List (List ℕ)
keys_of es = map (λ e. e.0.now) es

-- what is kept of a body: parameters over those of a text, the places of the others and of its enumerations, whose names differ
pub record AreBodyNames (over : Option Parameters) (bound_places : Firsts) (bound : List (Bor (List ℕ) × Value)) (enum_places : Firsts) (enums : List EnumOf) : Type 0 where
  pub shown_are : AreShown over
  pub bound_at : AreFirsts bound_places (keys_of bound)
  pub enums_at : AreFirsts enum_places (map (λ e. e.name) enums)
  pub unique : IsDistinct bytes_eq (map (λ e. e.name) enums)

abbrev pub is_enum_named : List ℕ → List EnumOf → Bool
is_enum_named n es = list_any (λ e. bytes_eq e.name n) es

-- the names of a body that may have none
abbrev pub names_or_none : Option (Box Names Global) → Names
names_or_none None = record { bound = []; enums = [] }
names_or_none (Some names) = names.value
