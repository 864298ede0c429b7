-- What separates lexemes: blanks, comments to the end of their line, and comments to their first end mark.
use Rattle.std.specs.List.{list_all}
use Rattle.std.specs.Prelude.{◌≡◌, ℕ, ◌<◌, ◌≤◌, length, take, drop, Bool, false, not, ◌&&◌, ◌||◌, ◌==◌, IsTrue, List, [], ◌∷◌, ◌++◌, codes}

abbrev pub is_blank : ℕ → Bool
is_blank b = b == 9 || b == 10 || b == 12 || b == 13 || b == 32

abbrev pub is_in_line : ℕ → Bool
is_in_line b = not (b == 10)

-- at the end of the text, or of a line
abbrev pub EndsLine : List ℕ → Type 0
EndsLine [] = Unit {0}
EndsLine (b ∷ bs) = b ≡ 10

-- the mark stands nowhere in the text
abbrev pub Lacks : List ℕ → List ℕ → Type 0
Lacks text mark = (before after : List ℕ) → text ≡ before ++ (mark ++ after) → ⊥

-- the first bytes are a separator, where the second ones follow
pub data IsSeparator (comments : Bool) : List ℕ → List ℕ → Type 0 where
  blank : {b : ℕ} {rest : List ℕ} → IsTrue (is_blank b) → IsSeparator comments (b ∷ []) rest
  line_comment : {separator rest : List ℕ} (body : List ℕ) → IsTrue comments → separator ≡ codes "//" ++ body → IsTrue (list_all is_in_line body) → EndsLine rest
      → IsSeparator comments separator rest
  block_comment : {separator rest : List ℕ} (body : List ℕ) → IsTrue comments → separator ≡ codes "/*" ++ (body ++ codes "*/") → Lacks body (codes "*/")
      → IsSeparator comments separator rest

-- separators lead from the text to what is left of it
pub data Skips (comments : Bool) : List ℕ → List ℕ → Type 0 where
  stay : {text : List ℕ} → Skips comments text text
  skip : {text left : List ℕ} (separator rest : List ℕ) → text ≡ separator ++ rest → IsSeparator comments separator rest → Skips comments rest left → Skips comments text left

abbrev pub begins_comment : List ℕ → Bool
begins_comment [] = false
begins_comment (b ∷ []) = false
begins_comment (b ∷ c ∷ rest) = b == 47 && (c == 47 || c == 42)

-- a blank or a comment begins here, closed or not
abbrev pub begins_separator : Bool → List ℕ → Bool
begins_separator comments [] = false
begins_separator comments (b ∷ rest) = is_blank b || comments && begins_comment (b ∷ rest)

-- so many bytes at the front are a separator; 0 where none begins
pub record LeadsBy (comments : Bool) (text : List ℕ) (n : ℕ) : Type 0 where
  pub within : n ≤ length text
  pub found : 0 < n → IsSeparator comments (take n text) (drop n text)
  pub none : n ≡ 0 → begins_separator comments text ≡ false

-- a comment that is not closed begins here
pub data IsOpenComment : List ℕ → Type 0 where
  opened : {text : List ℕ} (body : List ℕ) → text ≡ codes "/*" ++ body → Lacks body (codes "*/") → IsOpenComment text
