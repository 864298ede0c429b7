-- What is told of the words of a line.
use Rattle.std.specs.Prelude.{◌≡◌, ◌⊎◌, ℕ, ◌<◌, List, [], ◌∷◌, length}
use Rattle.drive_lang.specs.declared.words.Words.{Words}
use Rattle.drive_lang.specs.declared.words.Words.TheVariants.{Nothing, Two, Three, Other}

-- all of them where there are none, two or three
abbrev pub AreWords : Words → List (List ℕ) → Type 0
AreWords Nothing ws = ws ≡ []
AreWords (Two a b) ws = ws ≡ a.now ∷ b.now ∷ []
AreWords (Three a b c) ws = ws ≡ a.now ∷ b.now ∷ c.now ∷ []
AreWords Other ws = (length ws ≡ 1) ⊎ (3 < length ws)
