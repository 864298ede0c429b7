-- Enumerations that are looked up by their places and entries.
use Rattle.std.specs.Prelude.{◌≡◌, ℕ, Bool, ◌&&◌, nat_eq, List, map}
use Rattle.std.specs.Borrow.{Bor}
use Rattle.std.specs.BTreeMap.{get}
use Rattle.std.specs.Cmp.Lexicographic.{slice_cmp}
use Rattle.std.specs.List.{position_from}
use Rattle.std.specs.declared.cmp.Ordering.{Ordering}
use Rattle.std.specs.Ordering.{nat_cmp, ordering_then}
use Rattle.rdl_values.specs.Table.{entries_by}
use Rattle.rdl_values.specs.Values.{EnumOf}
use Rattle.rdl_encodings.specs.Same.{same_entries, shown}
use Rattle.rdl_encodings.specs.declared.distinct.Distinct.{Distinct}
use Rattle.rdl_encodings.specs.declared.distinct.EnumKey.{EnumKey}

-- by name, and then by value
abbrev pub entry_cmp : Bor (List ℕ) × ℕ → Bor (List ℕ) × ℕ → Ordering
entry_cmp x y = ordering_then (slice_cmp nat_cmp x.0.now y.0.now) (nat_cmp x.1 y.1)

-- by place, and then by entries
abbrev pub key_cmp : EnumKey → EnumKey → Ordering
key_cmp a b = ordering_then (nat_cmp a.place b.place) (slice_cmp entry_cmp a.entries.items b.entries.items)

-- the enumeration of a key, under a name
abbrev pub enum_of_key : List ℕ → EnumKey → EnumOf
enum_of_key name k = record { name = name; place = k.place; entries = entries_by k.entries.items }

-- the key is that of an enumeration
abbrev pub is_key_of : EnumKey → EnumOf → Bool
is_key_of k e = nat_eq e.place k.place && same_entries e.entries (entries_by k.entries.items)

-- They are these, with the numbers of fields, and each has its number under its key.
pub record AreDistinct (d : Distinct) (ls : List (ℕ × EnumOf)) : Type 0 where
  pub listed : d.list.items ≡ map shown ls
  pub numbered : (k : EnumKey) → get key_cmp d.numbers k ≡ position_from (λ x. is_key_of k x.1) 0 ls
