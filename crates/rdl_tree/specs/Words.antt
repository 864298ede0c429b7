-- Words (SystemRDL 2.0, 4.4).
use Rattle.std.specs.Char.{is_ascii_digit, is_ascii_alphabetic}
use Rattle.std.specs.List.{list_all}
use Rattle.std.specs.Prelude.{ℕ, Bool, false, ◌&&◌, ◌||◌, ◌==◌, IsTrue, List, [], ◌∷◌}
use Rattle.rdl_tree.specs.declared.expr.Name.{Name}

abbrev pub underscore : ℕ
underscore = 95

abbrev pub is_letter : ℕ → Bool
is_letter b = is_ascii_alphabetic b || b == underscore

abbrev pub is_in_word : ℕ → Bool
is_in_word b = is_letter b || is_ascii_digit b

-- a letter or _, then letters, digits and _
abbrev pub is_word : List ℕ → Bool
is_word [] = false
is_word (b ∷ bs) = is_letter b && list_all is_in_word bs

-- the name is a word
abbrev pub IsWordName : Name → Type 0
IsWordName n = IsTrue (is_word n.text.now)
