-- Which words are those of an array's elements, and how far apart they stand.
use Rattle.std.specs.Prelude.{ℕ, ◌+◌, ◌-◌, ◌*◌, ◌==◌, Bool, false, ◌&&◌, cond, max, min, nat_lt, List, [], ◌∷◌, ◌++◌, Option, None, Some, bytes_eq, count_by, flat_map, fold, get_or, length, map}
use Rattle.std.specs.List.{enumerate_from, list_all}
use Rattle.rb_model.specs.declared.block.Block.{Block}
use Rattle.word_groups.specs.declared.entries.Entry.{Entry}
use Rattle.word_groups.specs.Parts.{are_like}
use Rattle.word_groups.specs.Paths.{names_of}
use Rattle.word_groups.specs.Entries.{singles}

-- Groups: the words of one number of registers whose paths differ in indices alone.

abbrev pub key : Entry → List ℕ
key u = u.number ∷ names_of u.path

abbrev pub has_key : List ℕ → List Entry → Bool
has_key k [] = false
has_key k (u ∷ us) = bytes_eq (key u) k

-- each behind those of its key, or in a group of its own behind all
abbrev pub placed : List (List Entry) → Entry → List (List Entry)
placed [] u = (u ∷ []) ∷ []
placed (g ∷ gs) u = cond (has_key (key u) g) ((g ++ u ∷ []) ∷ gs) (g ∷ placed gs u)

abbrev pub groups : List Entry → List (List Entry)
groups us = fold placed [] us

-- Arrays.

-- one more than the greatest index at a place; an index is below 100,000,000
abbrev pub length_at : List Entry → ℕ → ℕ
length_at us k = fold (λ n u. max n (min 4294967295 (get_or u.indices k 0 + 1))) 0 us

-- the index at a place is 1, and all others are 0
abbrev pub is_step : ℕ → List ℕ → Bool
is_step k is = get_or is k 0 == 1 && count_by (λ i. nat_lt 0 i) is == 1

-- how far behind the first the element stands whose index at a place is 1 and whose others are 0
abbrev pub stride_at : (address : ℕ) → List Entry → ℕ → ℕ
stride_at address us k = fold (λ n u. cond (is_step k u.indices) (u.address - address) n) 0 us

abbrev pub at_each : (ℕ → ℕ) → List ℕ → List ℕ
at_each f is = map (λ k. f k.0) (enumerate_from 0 is)

abbrev pub lengths_of : Entry → List Entry → List ℕ
lengths_of first us = at_each (length_at us) first.indices

abbrev pub strides_of : Entry → List Entry → List ℕ
strides_of first us = at_each (stride_at first.address us) first.indices

-- strides times indices
abbrev pub distance : (strides indices : List ℕ) → ℕ
distance [] is = 0
distance (s ∷ ss) [] = 0
distance (s ∷ ss) (i ∷ is) = s * i + distance ss is

-- like the first, and as far from it as its indices say
abbrev pub is_element : Entry → (strides : List ℕ) → Entry → Bool
is_element first strides u = length u.indices == length first.indices && u.address == first.address + distance strides u.indices && u.bytes == first.bytes && are_like u.parts first.parts

abbrev pub is_array : Entry → List Entry → Bool
is_array first us = nat_lt 0 (length first.indices) && list_all (is_element first (strides_of first us)) us

abbrev pub as_array : Entry → List Entry → Entry
as_array first us = record first { lengths = lengths_of first us; strides = strides_of first us }

-- one for all, where they are an array's
abbrev pub array_of : List Entry → Option Entry
array_of [] = None
array_of (u ∷ us) = cond (is_array u (u ∷ us)) (Some (as_array u (u ∷ us))) None

-- one for an array, else one for each word
abbrev pub entries_of : List Entry → List Entry
entries_of [] = []
entries_of (u ∷ us) = cond (is_array u (u ∷ us)) (as_array u (u ∷ us) ∷ []) (u ∷ us)

abbrev pub groups_of : Block → List (List Entry)
groups_of b = groups (singles b)

abbrev pub entries : Block → List Entry
entries b = flat_map entries_of (groups_of b)
