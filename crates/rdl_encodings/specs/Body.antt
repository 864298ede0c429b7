-- The enumerations of one open body.
use Rattle.std.specs.Prelude.{◌≡◌, ℕ, List, [], map, Option, None, Some, option_map, slice_get}
use Rattle.rdl_tree.specs.declared.expr.Name.{Name}
use Rattle.rdl_tree.specs.declared.value.EnumValues.{EnumValues}
use Rattle.rdl_values.specs.Seen.{entry_of}
use Rattle.rdl_values.specs.Values.{EnumOf, Names}
use Rattle.rdl_values.specs.Visible.{enum_before}
use Rattle.rdl_facts.specs.Places.{number_before}
use Rattle.rdl_encodings.specs.declared.body.BodyEnums.{BodyEnums}

-- the number of the enumeration that a name means in the body
abbrev pub number_in : BodyEnums → Name → Option ℕ
number_in b n = number_before b.places n

-- an enumeration under a name
abbrev pub under : List ℕ → Option EnumValues → EnumOf
under name None = record { name = name; place = 0; entries = [] }
under name (Some e) = record { name = name; place = e.name.place.0; entries = map entry_of e.entries.now }

-- The enumerations are those of these names.
pub record AreEnumsOf (b : BodyEnums) (names : Names) : Type 0 where
  pub found : (n : Name) → enum_before n names ≡ option_map (λ k. under n.text.now (slice_get b.list.now k)) (number_in b n)
