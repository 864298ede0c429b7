-- Which groups are listed, as it is looked up.
use Rattle.std.specs.Prelude.{◌≡◌, Bool, ◌&&◌, List, bytes_eq, option_copied}
use Rattle.std.specs.List.{list_any}
use Rattle.std.specs.Option.{option_eq}
use Rattle.word_groups.specs.Paths.{names_of}
use Rattle.block_effects.specs.Notes.{SaidGroup}
use Rattle.rdl_notes.specs.Groups.{is_like}
use Rattle.rdl_notes.specs.declared.seen.Seen.{Seen}

-- a group like this one is listed
abbrev pub seen_in : Seen → SaidGroup → Bool
seen_in s g = list_any (λ k. bytes_eq (names_of g.path) k.0.items && (option_eq bytes_eq g.said.name (option_copied k.1) && option_eq bytes_eq g.said.desc (option_copied k.2))) s.groups.keys

abbrev pub IsSeenOf : List SaidGroup → Seen → Type 0
IsSeenOf gs s = (g : SaidGroup) → seen_in s g ≡ list_any (is_like g) gs
