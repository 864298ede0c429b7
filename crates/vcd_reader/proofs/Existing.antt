-- Each text has words.
use Rattle.std.specs.List.{take_while, list_all}
use Rattle.std.proofs.Common.{◌≡◌, ℕ, zero, suc, ◌+◌, ◌-◌, ◌<◌, ◌≤◌, Bool, true, false, not, ◌||◌, Some, List, [], ◌∷◌, length, take, drop, refl, ap, sym, ◌∙◌, arith, length-drop}
use Rattle.rb_grammar.specs.Separators.{is_blank, blank, Skips, stay, skip}
use Rattle.rb_grammar.specs.Lexemes.{has_form, meaning_of}
use Rattle.rb_grammar.specs.Spelling.{IsNext, StartsWith, SpellsFrom}
use Rattle.vcd_syntax.specs.Words.{vcd}
use Rattle.vcd_syntax.specs.Tokens.{Word}
use Rattle.vcd_reader.proofs.Runs.{starts}
use Rattle.plain_lemmas.proofs.Bools.{or-false as or_none}

abbrev in_word : ℕ → Bool
in_word b = not (is_blank b)

-- a lexeme means itself
pub means_itself : (w : List ℕ) → has_form vcd w ≡ true → meaning_of vcd w ≡ Some w
unfolding vcd
means_itself [] h = cc
means_itself (b ∷ bs) h = let p : list_all in_word (b ∷ bs) ≡ true = sym (or_none (list_all in_word (b ∷ bs))) ∙ h in rw p refl

pub plain : (text left : List ℕ) → Skips vcd.comments text left → Skips false text left
unfolding vcd
plain text left h = h

pub coloured : (text left : List ℕ) → Skips false text left → Skips vcd.comments text left
unfolding vcd
coloured text left h = h

-- words behind blanks that were passed
pub behind : (size : ℕ) (text left : List ℕ) (ts : List Word) → Skips false text left → SpellsFrom vcd size left ts → SpellsFrom vcd size text ts
behind size text _ ts stay s = s
behind size text left ts (skip separator rest e k q) s = one ts (behind size rest left ts q s)
  where
    one : (ts : List Word) → SpellsFrom vcd size rest ts → SpellsFrom vcd size text ts
    one [] a = coloured text [] (skip separator rest e k (plain rest [] a))
    one (t ∷ ts) a =
        let b = a.1 in
        (a.0, record { left = b.left; word = b.word; skips = coloured text b.left (skip separator rest e k (plain rest b.left b.skips)); next = b.next; means = b.means; at = b.at }, a.2)

-- the word at the front of what is left
pub starts_with : (size : ℕ) (left : List ℕ) (n place : ℕ) → IsNext vcd left (take n left) (drop n left) → place + length left ≡ size → StartsWith vcd size left (record { token = take n left; place = place }) (drop n left)
starts_with size left n place h e = record { left = left; word = take n left; skips = coloured left left stay; next = h; means = means_itself (take n left) h.form; at = e }

exist : (fuel size : ℕ) (text : List ℕ) → length text ≤ fuel → length text ≤ size → (ts : List Word) × SpellsFrom vcd size text ts
exist fuel size [] l s = ([], coloured [] [] stay)
exist zero size (b ∷ bs) l s = absurd (omega arith)
exist (suc fuel) size (b ∷ bs) l s = at (is_blank b) refl (exist fuel size bs (omega (arith, l)) (omega (arith, s))) (λ n p. exist fuel size (drop n (b ∷ bs)) (omega (arith, l, p, length-drop n (b ∷ bs))) (omega (arith, s, length-drop n (b ∷ bs))))
  where
    at : (c : Bool) → is_blank b ≡ c → (ts : List Word) × SpellsFrom vcd size bs ts → ((n : ℕ) → 0 < n → (ts : List Word) × SpellsFrom vcd size (drop n (b ∷ bs)) ts) → (ts : List Word) × SpellsFrom vcd size (b ∷ bs) ts
    at true e rest more = (rest.0, behind size (b ∷ bs) bs rest.0 (skip (b ∷ []) bs refl (blank e) stay) rest.1)
    at false e rest more =
        let n = length (take_while in_word (b ∷ bs)) in
        let p = starts b bs n (ap (λ z. z || false) e) refl in
        let q = more n p.0 in
        (record { token = take n (b ∷ bs); place = size - length (b ∷ bs) } ∷ q.0, (drop n (b ∷ bs), starts_with size (b ∷ bs) n (size - length (b ∷ bs)) p.2 (omega (arith, s)), q.1))

-- A text spells words.
pub words_exist : (size : ℕ) (text : List ℕ) → length text ≤ size → (ts : List Word) × SpellsFrom vcd size text ts
words_exist size text s = exist (length text) size text (omega arith) s
