-- Entries of an enumeration, as the code keeps them.
use Rattle.std.specs.Prelude.{◌≡◌, ℕ, List, map, flat_map}
use Rattle.rdl_base.specs.declared.fault.Fault.{Fault}
use Rattle.rdl_base.specs.declared.rule.Rule.TheVariants as rules
use Rattle.rdl_tree.specs.declared.expr.Name.{Name}
use Rattle.rdl_tree.specs.declared.value.EntryValue.{EntryValue}
use Rattle.rdl_values.specs.Bodies.{standing}
use Rattle.rdl_values.specs.Enums.{Judged}
use Rattle.rdl_values.specs.Faults.{at_, when}
use Rattle.rdl_values.specs.Phase3.{clashes}
use Rattle.rdl_values.specs.Seen.{listed_enum}
use Rattle.rdl_values.specs.Values.{EnumOf, entry_named}
use Rattle.rdl_scopes.specs.declared.entries.Judgement.{Judgement}
use Rattle.rdl_scopes.specs.declared.entries.ValuedEnum.{ValuedEnum}

-- an entry and its number
abbrev pub pair : EntryValue → Name × ℕ
pair e = (e.name, e.value)

-- what a judgement says
abbrev pub judged_in : Judgement → Judged
judged_in j = record { entries = map pair j.entries.items; failure = j.failure }

-- E14 at each entry of which one before has the name or the number
abbrev pub clash_fails : List (Name × ℕ) → List Fault
clash_fails entries = flat_map (λ e. when (clashes e.0 e.1) (at_ rules.E14 e.1.0.place)) (standing entries)

-- entries under their texts
abbrev pub by_text : List (Name × ℕ) → List (List ℕ × ℕ)
by_text entries = map (λ e. (e.0.text.now, e.1)) entries

-- an enumeration of this name with these entries
abbrev pub listed_as : Name → List (Name × ℕ) → EnumOf
listed_as name entries = record { name = name.text.now; place = name.place.0; entries = by_text entries }

-- The enumeration has this name, and each name the number of its first entry.
pub record IsTableOf (name : Name) (entries : List (Name × ℕ)) (e : EnumOf) : Type 0 where
  pub named : e.name ≡ name.text.now
  pub place : e.place ≡ name.place.0
  pub numbers : (n : List ℕ) → entry_named n e.entries ≡ entry_named n (by_text entries)

-- The enumeration has this name and these entries.
pub record IsValued (name : Name) (entries : List (Name × ℕ)) (v : ValuedEnum) : Type 0 where
  pub table : IsTableOf name entries v.table.value
  pub listed : listed_enum v.values ≡ listed_as name entries
