-- How a text is spelled: separators and lexemes in turn.
use Rattle.std.specs.Prelude.{◌≡◌, ℕ, ◌+◌, false, IsTrue, Some, None, List, [], ◌∷◌, ◌++◌, length, codes, map}
use Rattle.rb_grammar.specs.Separators.{Lacks, Skips, begins_separator}
use Rattle.rb_grammar.specs.Lexemes.{Lexicon, has_form, meaning_of}

-- a token, and how many bytes of the text stand before its lexeme
pub record At (T : Type 0) : Type 0 where
  pub token : T
  pub place : ℕ

-- in a text of this size, the place at which this much is left
abbrev pub IsPlace : ℕ → List ℕ → ℕ → Type 0
IsPlace size left place = place + length left ≡ size

-- the tokens without their places
abbrev pub tokens_of : {T : Type 0} → List (At T) → List T
tokens_of ts = map (λ t. t.token) ts

-- why no token comes next: no lexeme begins with this byte, a comment is not closed, or this lexeme means no token
pub data Fault : Type 0 where
  NoLexeme : ℕ → Fault
  OpenComment : Fault
  NoMeaning : List ℕ → Fault

module _ {T : Type 0} (L : Lexicon T) where
  -- no front of the rest, put behind the word, makes a lexeme
  abbrev pub IsLongest : List ℕ → List ℕ → Type 0
  IsLongest word rest = (more after : List ℕ) → rest ≡ more ++ after → IsTrue (has_form L (word ++ more)) → more ≡ []

  -- the longest lexeme at the front of what is left, where no separator begins
  pub record IsNext (left word rest : List ℕ) : Type 0 where
    pub whole : left ≡ word ++ rest
    pub bare : begins_separator L.comments left ≡ false
    pub form : IsTrue (has_form L word)
    pub longest : IsLongest word rest

  -- the text begins with separators and then the token, its longest lexeme there, and goes on with the rest
  pub record StartsWith (size : ℕ) (text : List ℕ) (t : At T) (rest : List ℕ) : Type 0 where
    pub left : List ℕ
    pub word : List ℕ
    pub skips : Skips L.comments text left
    pub next : IsNext left word rest
    pub means : meaning_of L word ≡ Some t.token
    pub at : IsPlace size left t.place

  -- the end of a text of this size is separators and lexemes in turn, and these are its tokens
  abbrev pub SpellsFrom : ℕ → List ℕ → List (At T) → Type 0
  SpellsFrom size text [] = Skips L.comments text []
  SpellsFrom size text (t ∷ ts) = (rest : List ℕ) × StartsWith size text t rest × SpellsFrom size rest ts

  -- the text is separators and lexemes in turn, and these are its tokens
  abbrev pub Spells : List ℕ → List (At T) → Type 0
  Spells text ts = SpellsFrom (length text) text ts

  -- what is wrong where no token comes next
  pub data IsFault : List ℕ → Fault → Type 0 where
    no_lexeme : {b : ℕ} {bs : List ℕ} → begins_separator L.comments (b ∷ bs) ≡ false → ((word rest : List ℕ) → b ∷ bs ≡ word ++ rest → has_form L word ≡ false)
        → IsFault (b ∷ bs) (NoLexeme b)
    open_comment : {left : List ℕ} (body : List ℕ) → IsTrue L.comments → left ≡ codes "/*" ++ body → Lacks body (codes "*/") → IsFault left OpenComment
    no_meaning : {left : List ℕ} (word rest : List ℕ) → IsNext left word rest → meaning_of L word ≡ None → IsFault left (NoMeaning word)

  -- behind separators no token comes next, for this reason and at this place
  pub record FailsAt (size : ℕ) (text : List ℕ) (f : Fault) (place : ℕ) : Type 0 where
    pub left : List ℕ
    pub skips : Skips L.comments text left
    pub fault : IsFault left f
    pub at : IsPlace size left place

  -- the first fault in the end of a text of this size, behind tokens, and its place
  pub data FaultsFrom (size : ℕ) : List ℕ → Fault → ℕ → Type 0 where
    here : {text : List ℕ} {f : Fault} {place : ℕ} → FailsAt size text f place → FaultsFrom size text f place
    later : {text rest : List ℕ} {t : At T} {f : Fault} {place : ℕ} → StartsWith size text t rest → FaultsFrom size rest f place → FaultsFrom size text f place

  -- the first fault of the text, behind tokens, and its place
  abbrev pub Faults : List ℕ → Fault → ℕ → Type 0
  Faults text f place = FaultsFrom (length text) text f place
