-- The macros of enumerations: one for each enumerator, with its value, and the text of them.
use Rattle.std.specs.Prelude.{ℕ, List, [], ◌∷◌, ◌++◌, codes, flat_map, map, slice_get}
use Rattle.std.specs.Option.{option_map_or}
use Rattle.encodings.specs.Encodings.{Enumeration}
use Rattle.rb_model.specs.declared.block.Block.{Block}
use Rattle.word_groups.specs.Arrays.{entries}
use Rattle.c_header.specs.Macros.{Macro, Number, macro, macros}
use Rattle.c_header.specs.Names.{Base, exact, name_among, natural, prefix, spelled}

-- an enumerator: its name and its value
abbrev pub Enumerator : Type 0
Enumerator = List ℕ × ℕ

-- the path of the first field that is encoded by it, and none where the block has no field of this number
abbrev pub user_path : Block → Enumeration → List ℕ
user_path b e = option_map_or (λ f. f.path) (slice_get b.fields e.field) []

abbrev pub enumerator_path : Enumeration → List ℕ → List ℕ
enumerator_path e name = e.name ++ 36 ∷ name

-- its exact name spells the path of that field
abbrev pub enumerator_exact : (begin path name : List ℕ) → List ℕ
enumerator_exact begin path name = exact begin 101 path ++ codes "_1" ++ spelled name

abbrev pub enumerator_base : (begin path : List ℕ) → Enumeration → List ℕ → Base
enumerator_base begin path e name = record { natural = natural begin (enumerator_path e name); exact = enumerator_exact begin path name }

abbrev pub own_naturals : List ℕ → Enumeration → List (List ℕ)
own_naturals begin e = map (λ x. natural begin (enumerator_path e x.0)) e.entries

abbrev pub enumerator_naturals : List ℕ → List Enumeration → List (List ℕ)
enumerator_naturals begin es = flat_map (own_naturals begin) es

-- Macros, where the natural names of all enumerators are these.

abbrev pub enumerator_macro : (begin path : List ℕ) → (naturals : List (List ℕ)) → Enumeration → Enumerator → Macro
enumerator_macro begin path naturals e x = macro (name_among naturals (enumerator_base begin path e x.0)) (codes "_VALUE") (Number x.1)

abbrev pub own_macros : Block → List ℕ → (naturals : List (List ℕ)) → Enumeration → List Macro
own_macros b begin naturals e = map (enumerator_macro begin (user_path b e) naturals e) e.entries

abbrev pub enumeration_macros : Block → List ℕ → List Enumeration → List Macro
enumeration_macros b begin es = flat_map (own_macros b begin (enumerator_naturals begin es)) es

abbrev pub enumerator_name : Block → List Enumeration → Enumeration → Enumerator → List ℕ
enumerator_name b es e x = name_among (enumerator_naturals (prefix b.name) es) (enumerator_base (prefix b.name) (user_path b e) e x.0)

-- all macros of a header but the guard
abbrev pub all_macros : Block → List Enumeration → List Macro
all_macros b es = macros (prefix b.name) (entries b) ++ enumeration_macros b (prefix b.name) es
