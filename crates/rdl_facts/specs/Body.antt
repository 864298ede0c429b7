-- The enumerations of one open body.
use Rattle.std.specs.Prelude.{◌≡◌, ℕ, [], Box, Option, None, Some}
use Rattle.std.specs.Global.{Global}
use Rattle.rdl_tree.specs.declared.expr.Name.{Name}
use Rattle.rdl_values.specs.Values.{EnumOf, Names}
use Rattle.rdl_values.specs.Visible.{enum_before}
use Rattle.rdl_facts.specs.Greatest.{IsGreatest, greatest_at}
use Rattle.rdl_facts.specs.Places.{number_before}
use Rattle.rdl_facts.specs.declared.body.BodyEnums.{BodyEnums}

-- the number of the enumeration that a name means in the body
abbrev pub number_in : BodyEnums → Name → Option ℕ
number_in b n = number_before b.places n

-- an enumeration is found, with its greatest number, or there is none
abbrev pub IsFound : BodyEnums → Option ℕ → Option EnumOf → Type 0
IsFound b None None = Unit {0}
IsFound b (Some k) (Some e) = IsGreatest (greatest_at b.greatest k) e.entries
IsFound b _ _ = ⊥

-- The enumerations are those of these names.
pub record AreEnumsOf (b : BodyEnums) (names : Names) : Type 0 where
  pub found : (n : Name) → IsFound b (number_in b n) (enum_before n names)

-- what a list of bodies has for one, where it has any
abbrev pub kept_of : Option (Option (Box BodyEnums Global)) → Option BodyEnums
kept_of (Some (Some b)) = Some b.value
kept_of _ = None

-- The enumerations are those of these names. Where there are none, nothing is kept of them.
abbrev pub AreKept : Option BodyEnums → Names → Type 0
AreKept None names = names.enums ≡ []
AreKept (Some b) names = AreEnumsOf b names
