-- What is kept of the parameters of a text.
use Rattle.std.specs.Prelude.{◌≡◌, ℕ, Bool, true, false, List, ◌∷◌, ◌++◌, length, map, Option, None, Some, option_map, is_none, bytes_eq, slice_get, unwrap_or}
use Rattle.std.specs.List.{list_any}
use Rattle.std.specs.Borrow.{Bor}
use Rattle.rdl_tree.specs.declared.item.Param.{Param}
use Rattle.rdl_tree.specs.declared.value.Value.{Value}
use Rattle.rdl_values.specs.Firsts.{AreFirsts}
use Rattle.rdl_values.specs.Seen.{val_of}
use Rattle.rdl_values.specs.Values.{Val}
use Rattle.rdl_values.specs.Overlaid.{AreApart, Plain, plain_of}
use Rattle.rdl_values.specs.Places.{has_place}
use Rattle.rdl_values.specs.Readers.{AreReaders}
use Rattle.rdl_values.specs.declared.defaults.Defaults.{Defaults}

-- a parameter's name and its value, if it has one
abbrev pub entry_of : Bor (List ℕ) × Option Value → List ℕ × Option Val
entry_of e = (e.0.now, option_map val_of e.1)

-- at this place stands one that has none
abbrev pub is_needed : Plain → ℕ → Bool
is_needed xs k = unwrap_or (option_map (λ x. is_none x.1) (slice_get xs k)) false

-- At this place stands the first whose name stands before.
pub record IsTwice (xs : Plain) (place : ℕ) : Type 0 where
  pub before : Plain
  pub entry : List ℕ × Option Val
  pub behind : Plain
  pub all : xs ≡ before ++ (entry ∷ behind)
  pub at : place ≡ length before
  pub apart : AreApart before
  pub taken : list_any (λ x. bytes_eq x.0 entry.0) before ≡ true

-- There is none, or else it stands there.
abbrev pub IsFirstTwice : Plain → Option ℕ → Type 0
IsFirstTwice xs None = AreApart xs
IsFirstTwice xs (Some k) = IsTwice xs k

-- They are those of these parameters.
pub record AreDefaults (d : Defaults) (xs : Plain) : Type 0 where
  pub entries : map entry_of d.entries.items ≡ xs
  pub places : AreFirsts d.places (map (λ x. x.0) xs)
  pub needed : (k : ℕ) → has_place d.needed k ≡ is_needed xs k
  pub twice : IsFirstTwice xs d.twice

-- They are those of these parameters of a text, and each default is kept with those that it names.
abbrev pub AreDefaultsOf : Defaults → List Param → Type 0
AreDefaultsOf d ps = AreDefaults d (plain_of ps) × AreReaders d.readers ps
