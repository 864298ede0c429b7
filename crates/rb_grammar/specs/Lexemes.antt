-- The lexemes of a language, as a table of their classes.
use Rattle.std.specs.Str.{bytes_eq}
use Rattle.std.specs.List.{list_any, find}
use Rattle.std.specs.Prelude.{ℕ, Bool, false, if◌then◌else◌, Option, None, List, [], ◌∷◌}

-- a class of lexemes: which texts have its form, and which token such a text means, if any
pub record Class (T : Type 0) : Type 0 where
  pub form : List ℕ → Bool
  pub meaning : List ℕ → Option T

-- the classes, and whether comments separate lexemes, as blanks do
pub record Lexicon (T : Type 0) : Type 0 where
  pub comments : Bool
  pub classes : List (Class T)

-- a lexeme has bytes, and the form of a class
abbrev pub has_form : {T : Type 0} → Lexicon T → List ℕ → Bool
has_form L [] = false
has_form L (b ∷ bs) = list_any (λ c. c.form (b ∷ bs)) L.classes

-- what a text means in the first class that it has the form of
abbrev pub meaning_among : {T : Type 0} → List (Class T) → List ℕ → Option T
meaning_among [] word = None
meaning_among (c ∷ cs) word = if c.form word then c.meaning word else meaning_among cs word

abbrev pub meaning_of : {T : Type 0} → Lexicon T → List ℕ → Option T
meaning_of L word = meaning_among L.classes word

-- among things that have a spelling each, the one that is spelled so
abbrev pub spelled : {M : Type 0} → (M → List ℕ) → List M → List ℕ → Option M
spelled spelling ms word = find (λ m. bytes_eq (spelling m) word) ms
