-- The macros of a header: each with its name and what it stands for.
use Rattle.std.specs.Prelude.{ℕ, ◌+◌, ◌==◌, Bool, cond, nat_lt, List, [], ◌∷◌, ◌++◌, codes, decimal, flat_map, map, length, Option, None, Some}
use Rattle.std.specs.List.{enumerate_from}
use Rattle.word_groups.specs.declared.parts.Part.{Part}
use Rattle.word_groups.specs.declared.entries.Entry.{Entry}
use Rattle.word_groups.specs.Arrays.{distance}
use Rattle.c_header.specs.Names.{Base, exact, name_among, natural, spelled}
use Rattle.word_groups.specs.Parts.{resval}
use Rattle.word_groups.specs.Paths.{names_of}

pub data Value : Type 0 where
  Count : ℕ → Value
  Number : ℕ → Value
  Offset : ℕ → List ℕ → Value

-- what it is at these indices
abbrev pub value_at : Value → (indices : List ℕ) → ℕ
value_at (Count n) is = n
value_at (Number n) is = n
value_at (Offset n strides) is = n + distance strides is

pub record Macro : Type 0 where
  pub name : List ℕ
  pub value : Value

-- Names. Those of an array leave out its indices.

abbrev pub stands_for_array : Entry → Bool
stands_for_array u = nat_lt 0 (length u.strides)

abbrev pub entry_path : Entry → List ℕ
entry_path u = cond (stands_for_array u) (names_of u.path) u.path

-- with the number of a word that isn't its register's first
abbrev pub word_path : Entry → List ℕ
word_path u = entry_path u ++ cond (u.number == 0) [] (codes "$w" ++ decimal u.number)

abbrev pub array_mark : Entry → ℕ
array_mark u = cond (stands_for_array u) 97 120

abbrev pub word_exact : List ℕ → Entry → List ℕ
word_exact begin u = exact begin (array_mark u) (entry_path u) ++ cond (u.number == 0) [] (codes "_w" ++ decimal u.number)

abbrev pub word_base : List ℕ → Entry → Base
word_base begin u = record { natural = natural begin (word_path u); exact = word_exact begin u }

abbrev pub part_path : Entry → Part → List ℕ
part_path u p = word_path u ++ 36 ∷ p.name

abbrev pub part_base : List ℕ → Entry → Part → Base
part_base begin u p = record { natural = natural begin (part_path u p); exact = word_exact begin u ++ codes "_1" ++ spelled p.name }

abbrev pub word_naturals : List ℕ → List Entry → List (List ℕ)
word_naturals begin us = map (λ u. natural begin (word_path u)) us

abbrev pub entry_naturals : List ℕ → Entry → List (List ℕ)
entry_naturals begin u = map (λ p. natural begin (part_path u p)) u.parts

abbrev pub part_naturals : List ℕ → List Entry → List (List ℕ)
part_naturals begin us = flat_map (entry_naturals begin) us

-- Macros.

abbrev pub macro : List ℕ → List ℕ → Value → Macro
macro base word value = record { name = base ++ word; value = value }

abbrev pub given : List ℕ → List ℕ → Option ℕ → List Macro
given base word None = []
given base word (Some n) = macro base word (Number n) ∷ []

-- an index has a number where there are several
abbrev pub index_mark : (several : Bool) → ℕ → List ℕ
index_mark several k = cond several (decimal k) []

-- one for each index
abbrev pub along : List ℕ → List ℕ → (ℕ → Value) → List ℕ → List Macro
along base word value ns = map (λ k. macro base (word ++ index_mark (nat_lt 1 (length ns)) k.0) (value k.1)) (enumerate_from 0 ns)

abbrev pub word_macros : List ℕ → Entry → List Macro
word_macros base u = macro base (codes "_OFFSET") (Offset u.address u.strides) ∷ (along base (codes "_COUNT") Count u.lengths ++ along base (codes "_STRIDE") Number u.strides
    ++ macro base (codes "_BYTES") (Count u.bytes) ∷ given base (codes "_RESVAL") (resval u.parts))

abbrev pub from_macros : List ℕ → Part → List Macro
from_macros base p = cond p.whole [] (macro base (codes "_FROM") (Count p.from) ∷ [])

abbrev pub part_macros : List ℕ → Part → List Macro
part_macros base p = macro base (codes "_SHIFT") (Count p.low) ∷ macro base (codes "_BITS") (Count p.bits) ∷ macro base (codes "_MASK") (Number p.mask)
    ∷ (from_macros base p ++ given base (codes "_RESET") p.reset)

abbrev pub entry_name : List ℕ → List Entry → Entry → List ℕ
entry_name begin us u = name_among (word_naturals begin us) (word_base begin u)

abbrev pub part_name : List ℕ → List Entry → Entry → Part → List ℕ
part_name begin us u p = name_among (part_naturals begin us) (part_base begin u p)

abbrev pub entry_macros : List ℕ → List Entry → Entry → List Macro
entry_macros begin us u = word_macros (entry_name begin us u) u ++ flat_map (λ p. part_macros (part_name begin us u p) p) u.parts

-- all but the guard
abbrev pub macros : List ℕ → List Entry → List Macro
macros begin us = flat_map (entry_macros begin us) us
