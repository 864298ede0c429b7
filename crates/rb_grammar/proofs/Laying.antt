-- Cells that can be printed spell their tokens.
use Rattle.std.specs.List.{list_all}
use Rattle.std.proofs.Common.{◌≡◌, ℕ, ◌-◌, ◌≤◌, Bool, true, ◌&&◌, List, [], ◌∷◌, ◌++◌, length, refl, ap, arith, length-append}
use Rattle.std.proofs.lemmas.Bool.{and_parts}
use Rattle.rb_grammar.specs.Separators.{is_blank, blank, Skips, stay, skip}
use Rattle.rb_grammar.specs.Lexemes.{Lexicon}
use Rattle.rb_grammar.specs.Spelling.{At, IsLongest, StartsWith, SpellsFrom, Spells, tokens_of}
use Rattle.rb_grammar.specs.Printing.{Cell, cell_tokens, Printer, cells_text, joins, printable}

-- Blanks are separators.
pub skip_blanks : (c : Bool) (bs left : List ℕ) → list_all is_blank bs ≡ true → Skips c (bs ++ left) left
skip_blanks c [] left h = stay
skip_blanks c (b ∷ bs) left h = let p = and_parts (is_blank b) (list_all is_blank bs) h in skip (b ∷ []) (bs ++ left) refl (blank p.0) (skip_blanks c bs left p.1)

module _ {T : Type 0} {L : Lexicon T} (P : Printer L) where
  -- what is known of cells that can be printed
  record Parts (c : Cell T) (cs : List (Cell T)) : Type 0 where
    blanks : list_all is_blank c.gap ≡ true
    word : P.has_word c.token ≡ true
    join : joins P c.token cs ≡ true
    more : printable P cs ≡ true

  parts : (c : Cell T) (cs : List (Cell T)) → printable P (c ∷ cs) ≡ true → Parts c cs
  parts c cs h =
      let p = and_parts (list_all is_blank c.gap) (P.has_word c.token && (joins P c.token cs && printable P cs)) h in
      let q = and_parts (P.has_word c.token) (joins P c.token cs && printable P cs) p.1 in
      let r = and_parts (joins P c.token cs) (printable P cs) q.1 in
      record { blanks = p.0; word = q.0; join = r.0; more = r.1 }

  longest_at_end : (word : List ℕ) → IsLongest L word []
  longest_at_end word [] after e f = refl
  longest_at_end word (b ∷ bs) after e f = cc

  -- a token's word is the longest lexeme before the next cells
  ends : (t : T) (cs : List (Cell T)) (last : List ℕ) → P.has_word t ≡ true → joins P t cs ≡ true → printable P cs ≡ true → list_all is_blank last ≡ true
      → IsLongest L (P.word_of t) (cells_text P cs last)
  ends t [] [] h j p l = longest_at_end (P.word_of t)
  ends t [] (b ∷ bs) h j p l = P.ends_at_blank t b bs h (and_parts (is_blank b) (list_all is_blank bs) l).0
  ends t (c ∷ cs) last h j p l = go c.gap j q.blanks
    where
      q : Parts c cs
      q = parts c cs p

      go : (gap : List ℕ) → joins P t (record { gap = gap; token = c.token } ∷ cs) ≡ true → list_all is_blank gap ≡ true → IsLongest L (P.word_of t) (gap ++ (P.word_of c.token ++ cells_text P cs last))
      go [] j g = P.ends_at_word t c.token (cells_text P cs last) h q.word j
      go (b ∷ bs) j g = P.ends_at_blank t b (bs ++ (P.word_of c.token ++ cells_text P cs last)) h (and_parts (is_blank b) (list_all is_blank bs) g).0

  starts : (size : ℕ) (c : Cell T) (cs : List (Cell T)) (last : List ℕ) → printable P (c ∷ cs) ≡ true → list_all is_blank last ≡ true
      → length (P.word_of c.token ++ cells_text P cs last) ≤ size
      → StartsWith L size (cells_text P (c ∷ cs) last) (record { token = c.token; place = size - length (P.word_of c.token ++ cells_text P cs last) }) (cells_text P cs last)
  starts size c cs last h l fits = let q = parts c cs h in record {
    left = P.word_of c.token ++ cells_text P cs last;
    word = P.word_of c.token;
    skips = skip_blanks L.comments c.gap (P.word_of c.token ++ cells_text P cs last) q.blanks;
    next = record {
      whole = refl;
      bare = P.bare c.token (cells_text P cs last) q.word;
      form = P.form c.token q.word;
      longest = ends c.token cs last q.word q.join q.more l;
    };
    means = P.means c.token q.word;
    at = omega arith;
  }

  blanks_end : (c : Bool) (bs : List ℕ) → list_all is_blank bs ≡ true → Skips c bs []
  blanks_end c [] h = stay
  blanks_end c (b ∷ bs) h = let p = and_parts (is_blank b) (list_all is_blank bs) h in skip (b ∷ []) bs refl (blank p.0) (blanks_end c bs p.1)

  printed_from : (size : ℕ) (cs : List (Cell T)) (last : List ℕ) → printable P cs ≡ true → list_all is_blank last ≡ true → length (cells_text P cs last) ≤ size
      → (ts : List (At T)) × SpellsFrom L size (cells_text P cs last) ts × (tokens_of ts ≡ cell_tokens cs)
  printed_from size [] last h l fits = ([], blanks_end L.comments last l, refl)
  printed_from size (c ∷ cs) last h l fits =
      let text = cells_text P cs last in
      let q = parts c cs h in
      let outer = length-append c.gap (P.word_of c.token ++ text) in
      let inner = length-append (P.word_of c.token) text in
      let rest = printed_from size cs last q.more l (omega (arith, outer, inner)) in (
        record { token = c.token; place = size - length (P.word_of c.token ++ text) } ∷ rest.0,
        (text, starts size c cs last h l (omega (arith, outer)), rest.1),
        ap (λ z. c.token ∷ z) rest.2,
      )

  -- Cells that can be printed, with blanks behind the last, spell their tokens.
  pub printed : (cs : List (Cell T)) (last : List ℕ) → printable P cs ≡ true → list_all is_blank last ≡ true
      → (ts : List (At T)) × Spells L (cells_text P cs last) ts × (tokens_of ts ≡ cell_tokens cs)
  printed cs last h l = printed_from (length (cells_text P cs last)) cs last h l (omega arith)
