-- The enumerations of all open bodies.
use Rattle.std.specs.Prelude.{◌≡◌, ℕ, List, flat_map, Option, Some, option_to_list, slice_get}
use Rattle.rdl_tree.specs.declared.expr.Name.{Name}
use Rattle.rdl_values.specs.Values.{Around, Names, visible_enum}
use Rattle.rdl_bodies.specs.Sited.{own_names}
use Rattle.rdl_bodies.specs.declared.bodies.Bodies.{Bodies}
use Rattle.rdl_bodies.specs.declared.bodies.Body.{Body}
use Rattle.rdl_facts.specs.Body.{AreKept, kept_of}
use Rattle.rdl_facts.specs.declared.body.BodyEnums.{BodyEnums}
use Rattle.rdl_facts.specs.declared.table.EnumNumbers.{EnumNumbers}

-- the enumerations of the body of this number, if it has any
abbrev pub enums_at : EnumNumbers → ℕ → Option BodyEnums
enums_at t k = kept_of (slice_get t.bodies.items k)

-- the body of this number has the enumerations of these names
abbrev pub HasEnums : EnumNumbers → ℕ → Names → Type 0
HasEnums t k names = AreKept (enums_at t k) names

-- Each open body has those of its own names.
pub record AreNumbersOf (t : EnumNumbers) (bodies : Bodies) : Type 0 where
  pub each : (k : ℕ) (x : Body) → slice_get bodies.list.items k ≡ Some x → HasEnums t k (own_names x)

-- the entries of the enumeration that a name means in these bodies, none where it means none
abbrev pub entries_meant : Around → Name → List (List ℕ × ℕ)
entries_meant around n = flat_map (λ e. e.entries) (option_to_list (visible_enum around n))
