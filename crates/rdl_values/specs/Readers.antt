-- Which defaults read which parameters.
use Rattle.std.specs.Prelude.{◌≡◌, ℕ, Bool, false, List, map, Option, option_map, bytes_eq, slice_get, take, unwrap_or}
use Rattle.std.specs.BTreeSet.{contains}
use Rattle.std.specs.List.{list_any, position_from}
use Rattle.std.specs.declared.cmp.Ordering.{Ordering}
use Rattle.std.specs.Ordering.{nat_cmp, ordering_then}
use Rattle.rdl_tree.specs.declared.expr.Name.{Name}
use Rattle.rdl_tree.specs.declared.item.Param.{Param}
use Rattle.rdl_values.specs.Firsts.{place_of}
use Rattle.rdl_values.specs.Overlaid.{names_of}
use Rattle.rdl_values.specs.Places.{is_found}
use Rattle.rdl_values.specs.declared.firsts.Firsts.{Firsts}
use Rattle.rdl_values.specs.declared.readers.Readers.{Readers}

-- by the place that is read, and then by the reader's
abbrev pub place_cmp : ℕ × ℕ → ℕ × ℕ → Ordering
place_cmp a b = ordering_then (nat_cmp a.0 b.0) (nat_cmp a.1 b.1)

-- whether what stands at the other place is kept as a reader of what stands at this one
abbrev pub has_reader : Readers → ℕ → ℕ → Bool
has_reader r read reader = contains place_cmp r.set (read, reader)

-- whether a name has this place
abbrev pub stands_at : Firsts → ℕ → Name → Bool
stands_at places read n = is_found (place_of places n.text.now) read

-- whether a name means what stands at this place, the first of its name among these parameters
abbrev pub is_meant : List Param → ℕ → Name → Bool
is_meant before read n = is_found (position_from (λ m. bytes_eq m n.text.now) 0 (map (λ p. p.name.text.now) before)) read

-- whether the parameter at the other place has a default that names the one at this place, which stands before it
abbrev pub is_reader : List Param → ℕ → ℕ → Bool
is_reader ps read reader = unwrap_or (option_map (λ p. list_any (is_meant (take reader ps) read) (names_of p.default)) (slice_get ps reader)) false

-- Each reader is kept, and nothing else.
abbrev pub AreReaders : Readers → List Param → Type 0
AreReaders r ps = (read reader : ℕ) → has_reader r read reader ≡ is_reader ps read reader
