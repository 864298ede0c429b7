-- Groups of which the same is said, as of the elements of an array.
use Rattle.std.specs.Prelude.{Bool, ◌&&◌, cond, List, [], ◌∷◌, ◌++◌, bytes_eq, fold}
use Rattle.std.specs.List.{list_any}
use Rattle.std.specs.Option.{option_eq}
use Rattle.word_groups.specs.Paths.{names_of}
use Rattle.block_effects.specs.Notes.{SaidGroup}

-- their paths differ in indices alone, and their texts not at all
abbrev pub is_like : SaidGroup → SaidGroup → Bool
is_like g h = bytes_eq (names_of g.path) (names_of h.path) && (option_eq bytes_eq g.said.name h.said.name && option_eq bytes_eq g.said.desc h.said.desc)

-- a group behind those before it, where none of them is like it
abbrev pub behind : List SaidGroup → SaidGroup → List SaidGroup
behind before g = cond (list_any (is_like g) before) before (before ++ g ∷ [])

-- of groups that are alike the first
abbrev pub once : List SaidGroup → List SaidGroup
once gs = fold behind [] gs
