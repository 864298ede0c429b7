-- The marks at the front of a text.
use Rattle.std.specs.Prelude.{◌≡◌, ℕ, ◌≤◌, List, ◌++◌, length}
use Rattle.rb_grammar_example.specs.declared.token.Mark.{Mark}
use Rattle.rb_grammar_example.specs.Lexemes.{spelling}

-- the mark stands at the front
abbrev pub Begins : Mark → List ℕ → Type 0
Begins m text = (rest : List ℕ) × (text ≡ spelling m ++ rest)

abbrev pub NoMark : List ℕ → Type 0
NoMark text = (m : Mark) → Begins m text → ⊥

-- the mark stands at the front, and no longer one does
abbrev pub IsLongestMark : List ℕ → Mark → Type 0
IsLongestMark text m = Begins m text × ((n : Mark) → Begins n text → length (spelling n) ≤ length (spelling m))
