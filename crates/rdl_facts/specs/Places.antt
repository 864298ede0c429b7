-- The enumerations of a body by their names.
use Rattle.std.specs.Prelude.{◌≡◌, ℕ, List, [], filter, find, length, map, nat_lt, bytes_eq, Option, None, Some, option_map, Vec}
use Rattle.std.specs.Global.{Global}
use Rattle.std.specs.BTreeMap.{get_by}
use Rattle.std.specs.Cmp.Lexicographic.{slice_cmp}
use Rattle.std.specs.Ordering.{nat_cmp}
use Rattle.rdl_tree.specs.declared.expr.Name.{Name}
use Rattle.rdl_tree.specs.declared.value.EnumValues.{EnumValues}
use Rattle.rdl_values.specs.Bodies.{standing}
use Rattle.rdl_facts.specs.declared.places.Places.{Places}
use Rattle.rdl_facts.specs.declared.places.Standing.{Standing}

abbrev pub listed : Option (Vec Standing Global) → List Standing
listed None = []
listed (Some v) = v.items

-- those that are found under a name
abbrev pub standing_of : Places → List ℕ → List Standing
standing_of t n = listed (get_by (λ k. slice_cmp nat_cmp n k.now) t.by_name)

-- the number of the first that stands before a name, of those that are found under it
abbrev pub number_before : Places → Name → Option ℕ
number_before t n = option_map (λ s. s.number) (find (λ s. nat_lt s.place n.place.0) (standing_of t n.text.now))

-- an enumeration behind those before it, by where its name stands and how many they are
abbrev pub stands : List EnumValues × EnumValues → Standing
stands e = record { place = e.1.name.place.0; number = length e.0 }

-- They are these, in order.
pub record ArePlaces (t : Places) (enums : List EnumValues) : Type 0 where
  pub each : (n : List ℕ) → standing_of t n ≡ map stands (filter (λ e. bytes_eq e.1.name.text.now n) (standing enums))
