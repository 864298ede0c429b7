-- The words of lines are the words of their text.
use Rattle.std.specs.List.{AllByRecursion, list_all, join_with_byte}
use Rattle.std.proofs.Common.{◌≡◌, ℕ, ◌-◌, ◌<◌, ◌≤◌, Bool, true, false, not, Some, List, [], ◌∷◌, ◌++◌, length, map, refl, ap, sym, ◌∙◌, subst, arith, append_assoc, length-append}
use Rattle.std.proofs.lemmas.Bool.{and_parts, not-true, both_ways}
use Rattle.plain_lemmas.proofs.Bools.{or-false}
use Rattle.rb_grammar.specs.Separators.{is_blank, blank, Skips, stay, skip, begins_separator}
use Rattle.rb_grammar.specs.Lexemes.{has_form, meaning_of}
use Rattle.rb_grammar.specs.Spelling.{IsLongest, StartsWith, SpellsFrom, Spells}
use Rattle.vcd_syntax.specs.Words.{vcd}
use Rattle.vcd_syntax.specs.Tokens.{Word}
use Rattle.vcd_syntax.specs.Dump.{Line, line_text, lines_text}

abbrev pub in_word : ℕ → Bool
in_word b = not (is_blank b)

-- a word has a byte, and no blank
abbrev pub is_word : List ℕ → Bool
is_word [] = false
is_word (b ∷ bs) = list_all in_word (b ∷ bs)

-- nothing follows, or a blank
abbrev pub Breaks : List ℕ → Type 0
Breaks [] = Unit {0}
Breaks (b ∷ rest) = is_blank b ≡ true

form_of : (b : ℕ) (w : List ℕ) → has_form vcd (b ∷ w) ≡ list_all in_word (b ∷ w)
unfolding vcd
form_of b w = or-false (list_all in_word (b ∷ w))

means_itself : (w : List ℕ) → is_word w ≡ true → meaning_of vcd w ≡ Some w
unfolding vcd
means_itself [] h = cc
means_itself (b ∷ bs) h = rw h refl

bare : (w rest : List ℕ) → is_word w ≡ true → begins_separator false (w ++ rest) ≡ false
bare [] rest h = cc
bare (b ∷ bs) rest h =
    let first : is_blank b ≡ false = not-true (is_blank b) (and_parts (in_word b) (list_all in_word bs) h).0 in
    or-false (is_blank b) ∙ first

bare_vcd : (text : List ℕ) → begins_separator false text ≡ false → begins_separator vcd.comments text ≡ false
unfolding vcd
bare_vcd text h = h

skips_vcd : (text left : List ℕ) → Skips false text left → Skips vcd.comments text left
unfolding vcd
skips_vcd text left h = h

skips_plain : (text left : List ℕ) → Skips vcd.comments text left → Skips false text left
unfolding vcd
skips_plain text left h = h

-- what passes with more behind it: no blank in it
no_blank : (w more : List ℕ) → list_all in_word (w ++ more) ≡ true → list_all in_word more ≡ true
no_blank [] more h = h
no_blank (b ∷ bs) more h = no_blank bs more (and_parts (in_word b) (list_all in_word (bs ++ more)) h).1

longest : (w rest : List ℕ) → is_word w ≡ true → Breaks rest → IsLongest vcd w rest
longest [] rest h k more after e f = cc
longest (b ∷ bs) rest h k [] after e f = refl
longest (b ∷ bs) [] h k (c ∷ more) after e f = cc
longest (b ∷ bs) (d ∷ rest) h k (c ∷ more) after e f =
    let same : d ≡ c = cc in
    let all : list_all in_word ((b ∷ bs) ++ (c ∷ more)) ≡ true = sym (form_of b (bs ++ (c ∷ more))) ∙ f in
    let first : in_word c ≡ true = (and_parts (in_word c) (list_all in_word more) (no_blank (b ∷ bs) (c ∷ more) all)).0 in
    absurd (both_ways (is_blank d) (ap is_blank same ∙ not-true (is_blank c) first) k)

-- a word at the front of a text
starts : (size : ℕ) (w rest : List ℕ) → is_word w ≡ true → Breaks rest → length (w ++ rest) ≤ size → StartsWith vcd size (w ++ rest) (record { token = w; place = size - length (w ++ rest) }) rest
starts size [] rest h k l = cc
starts size (b ∷ bs) rest h k l = record {
  left = (b ∷ bs) ++ rest;
  word = b ∷ bs;
  skips = skips_vcd ((b ∷ bs) ++ rest) ((b ∷ bs) ++ rest) stay;
  next = record {
    whole = refl;
    bare = bare_vcd ((b ∷ bs) ++ rest) (bare (b ∷ bs) rest h);
    form = form_of b bs ∙ h;
    longest = longest (b ∷ bs) rest h k;
  };
  means = means_itself (b ∷ bs) h;
  at = omega arith;
}

-- a blank before a text is passed
behind_blank : (size b : ℕ) (text : List ℕ) (ts : List Word) → is_blank b ≡ true → SpellsFrom vcd size text ts → SpellsFrom vcd size (b ∷ text) ts
behind_blank size b text [] h s = skips_vcd (b ∷ text) [] (skip (b ∷ []) text refl (blank h) (skips_plain text [] s))
behind_blank size b text (t ∷ ts) h s =
    let a = s.1 in
    (s.0, record { left = a.left; word = a.word; skips = skips_vcd (b ∷ text) a.left (skip (b ∷ []) text refl (blank h) (skips_plain text a.left a.skips)); next = a.next; means = a.means; at = a.at }, s.2)

abbrev pub tokens : List Word → List (List ℕ)
tokens ts = map (λ t. t.token) ts

-- these words are spelled by the text, behind others that the rest spells
unfoldable pub Spelled : ℕ → List ℕ → List (List ℕ) → Type 0
Spelled size text ws = (ts : List Word) × SpellsFrom vcd size text ts × (tokens ts ≡ ws)

abbrev pub AreWords : Line → Type 0
AreWords ws = AllByRecursion (λ w. is_word w ≡ true) ws

pub one_word : (size : ℕ) (w rest : List ℕ) (ws : List (List ℕ)) → is_word w ≡ true → Breaks rest → length (w ++ rest) ≤ size → Spelled size rest ws → Spelled size (w ++ rest) (w ∷ ws)
unfolding Spelled
one_word size w rest ws h k l s = (record { token = w; place = size - length (w ++ rest) } ∷ s.0, (rest, starts size w rest h k l, s.1), ap (λ z. w ∷ z) s.2)

pub pass_blank : (size b : ℕ) (text : List ℕ) (ws : List (List ℕ)) → is_blank b ≡ true → Spelled size text ws → Spelled size (b ∷ text) ws
unfolding Spelled
pass_blank size b text ws h s = (s.0, behind_blank size b text s.0 h s.1, s.2)

-- a line before a text
one_line : (size : ℕ) (w : List ℕ) (ws : Line) (rest : List ℕ) (vs : List (List ℕ)) → AreWords (w ∷ ws) → length (line_text (w ∷ ws) ++ rest) ≤ size → Spelled size rest vs → Spelled size (line_text (w ∷ ws) ++ rest) ((w ∷ ws) ++ vs)
one_line size w [] rest vs h l s =
    subst (λ z. Spelled size z (w ∷ vs)) (sym (append_assoc w (10 ∷ []) rest))
    (one_word size w (10 ∷ rest) vs h.0 refl (subst (λ z. length z ≤ size) (append_assoc w (10 ∷ []) rest) l) (pass_blank size 10 rest vs refl s))
one_line size w (x ∷ ws) rest vs h l s =
    let inner = join_with_byte 32 (x ∷ ws) in
    let cut : line_text (w ∷ x ∷ ws) ++ rest ≡ w ++ (32 ∷ (line_text (x ∷ ws) ++ rest)) = ap (λ z. z ++ rest) (append_assoc w (32 ∷ inner) (10 ∷ [])) ∙ append_assoc w (32 ∷ (inner ++ (10 ∷ []))) rest in
    let fits : length (w ++ (32 ∷ (line_text (x ∷ ws) ++ rest))) ≤ size = subst (λ z. length z ≤ size) cut l in
    subst (λ z. Spelled size z (w ∷ ((x ∷ ws) ++ vs))) (sym cut)
    (one_word size w (32 ∷ (line_text (x ∷ ws) ++ rest)) ((x ∷ ws) ++ vs) h.0 refl fits
    (pass_blank size 32 (line_text (x ∷ ws) ++ rest) ((x ∷ ws) ++ vs) refl
    (one_line size x ws rest vs h.1 (omega (arith, fits, length-append w (32 ∷ (line_text (x ∷ ws) ++ rest)))) s)))

-- lines of words, each with one at least
abbrev pub AreLines : List Line → Type 0
AreLines ls = AllByRecursion (λ l. (0 < length l) × AreWords l) ls

abbrev pub all_words : List Line → List (List ℕ)
all_words [] = []
all_words (l ∷ ls) = l ++ all_words ls

pub nothing : (size : ℕ) → Spelled size [] []
unfolding Spelled
nothing size = ([], skips_vcd [] [] stay, refl)

line_spelled : (size : ℕ) (l : Line) (rest : List ℕ) (vs : List (List ℕ)) → (0 < length l) × AreWords l → length (line_text l ++ rest) ≤ size → Spelled size rest vs → Spelled size (line_text l ++ rest) (l ++ vs)
line_spelled size [] rest vs h le s = absurd (omega (arith, h.0))
line_spelled size (w ∷ ws) rest vs h le s = one_line size w ws rest vs h.1 le s

from_lines : (size : ℕ) (ls : List Line) → AreLines ls → length (lines_text ls) ≤ size → Spelled size (lines_text ls) (all_words ls)
from_lines size [] h l = nothing size
from_lines size (x ∷ ls) h l = line_spelled size x (lines_text ls) (all_words ls) h.0 l (from_lines size ls h.1 (omega (arith, l, length-append (line_text x) (lines_text ls))))

-- The text of lines spells their words.
pub lines_spelled : (ls : List Line) → AreLines ls → (ts : List Word) × Spells vcd (lines_text ls) ts × (tokens ts ≡ all_words ls)
unfolding Spelled
lines_spelled ls h = from_lines (length (lines_text ls)) ls h (omega arith)
