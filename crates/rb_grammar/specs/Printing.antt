-- Tokens laid out with blanks between them, each in one word.
use Rattle.std.specs.List.{list_all}
use Rattle.std.specs.Prelude.{◌≡◌, ℕ, Bool, true, false, ◌&&◌, ◌||◌, IsTrue, Some, List, [], ◌∷◌, ◌++◌, map}
use Rattle.rb_grammar.specs.Separators.{is_blank, begins_separator}
use Rattle.rb_grammar.specs.Lexemes.{Lexicon, has_form, meaning_of}
use Rattle.rb_grammar.specs.Spelling.{IsLongest}

-- a token, and the blanks before it
pub record Cell (T : Type 0) : Type 0 where
  pub gap : List ℕ
  pub token : T

abbrev pub cell_tokens : {T : Type 0} → List (Cell T) → List T
cell_tokens cells = map (λ c. c.token) cells

-- How a language's tokens are printed: which have a word, and behind which of them another may stand with no
-- blank between. The word is a lexeme, means the token, looks like no separator, and ends where it has to.
pub record Printer {T : Type 0} (L : Lexicon T) : Type 0 where
  pub word_of : T → List ℕ
  pub has_word : T → Bool
  pub may_touch : T → T → Bool
  pub form : (t : T) → IsTrue (has_word t) → IsTrue (has_form L (word_of t))
  pub means : (t : T) → IsTrue (has_word t) → meaning_of L (word_of t) ≡ Some t
  pub bare : (t : T) (rest : List ℕ) → IsTrue (has_word t) → begins_separator L.comments (word_of t ++ rest) ≡ false
  pub ends_at_blank : (t : T) (b : ℕ) (rest : List ℕ) → IsTrue (has_word t) → IsTrue (is_blank b) → IsLongest L (word_of t) (b ∷ rest)
  pub ends_at_word : (t u : T) (rest : List ℕ) → IsTrue (has_word t) → IsTrue (has_word u) → IsTrue (may_touch t u) → IsLongest L (word_of t) (word_of u ++ rest)

module _ {T : Type 0} {L : Lexicon T} (P : Printer L) where
  -- the cells, and what follows the last
  abbrev pub cells_text : List (Cell T) → List ℕ → List ℕ
  cells_text [] last = last
  cells_text (c ∷ cs) last = c.gap ++ (P.word_of c.token ++ cells_text cs last)

  -- the token stands before a blank, before one that it may touch, or at the end
  abbrev pub joins : T → List (Cell T) → Bool
  joins t [] = true
  joins t (c ∷ cs) = is_some c.gap || P.may_touch t c.token
    where
      is_some : List ℕ → Bool
      is_some [] = false
      is_some (b ∷ bs) = true

  -- the cells can be printed and read again
  abbrev pub printable : List (Cell T) → Bool
  printable [] = true
  printable (c ∷ cs) = list_all is_blank c.gap && (P.has_word c.token && (joins c.token cs && printable cs))
