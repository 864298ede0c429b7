-- Enumerations of a source that are looked up by their places.
use Rattle.std.specs.Prelude.{◌≡◌, ℕ, List, Option, option_map}
use Rattle.std.specs.BTreeMap.{get}
use Rattle.std.specs.Ordering.{nat_cmp}
use Rattle.rdl_tree.specs.declared.item.Entry.{Entry}
use Rattle.rdl_notes.specs.Entries.{enum_at}
use Rattle.rdl_notes.specs.declared.entries.SourceEnums.{SourceEnums}

abbrev pub known_at : SourceEnums → ℕ → Option (List Entry)
known_at t p = option_map (λ es. es.now) (get nat_cmp t.by_place p)

-- They are these, of two at one place the first.
abbrev pub AreKnown : List (ℕ × List Entry) → SourceEnums → Type 0
AreKnown es t = (p : ℕ) → known_at t p ≡ option_map (λ e. e.1) (enum_at es p)
