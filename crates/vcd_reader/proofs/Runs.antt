-- The first word of a text is its first run of bytes other than blanks.
use Rattle.std.specs.List.{take_while, list_all, prefix_len}
use Rattle.std.proofs.Common.{◌≡◌, ℕ, ◌<◌, ◌≤◌, Bool, true, false, not, List, [], ◌∷◌, length, take, drop, get_or, refl, ap, sym, ◌∙◌, subst, arith, length-take, length-drop}
use Rattle.rb_grammar.specs.Separators.{is_blank, Skips, stay, skip, blank, begins_separator}
use Rattle.rb_grammar.specs.Lexemes.{has_form}
use Rattle.rb_grammar.specs.Spelling.{IsNext}
use Rattle.rb_grammar.proofs.Scanning.{run_cons}
use Rattle.rb_grammar.proofs.Lexing.{next_by_run}
use Rattle.vcd_syntax.specs.Words.{vcd}
use Rattle.vcd_reader.specs.Fronts.{StartsBy}
use Rattle.plain_lemmas.proofs.Bools.{or-false as or_none}

abbrev in_word : ℕ → Bool
in_word b = not (is_blank b)

is_run : (b : ℕ) → in_word b ≡ true → (w : List ℕ) → has_form vcd (b ∷ w) ≡ list_all in_word w
unfolding vcd
is_run b h w = rw (h, or_none) refl

pub starts : (b : ℕ) (bs : List ℕ) (n : ℕ) → begins_separator false (b ∷ bs) ≡ false → n ≡ length (take_while in_word (b ∷ bs)) → (0 < n) × (n ≤ length (b ∷ bs)) × IsNext vcd (b ∷ bs) (take n (b ∷ bs)) (drop n (b ∷ bs))
unfolding vcd
starts b bs n e l =
    let blank : is_blank b ≡ false = sym (or_none (is_blank b)) ∙ e in
    let first : in_word b ≡ true = ap not blank in
    let run = run_cons in_word b bs first in
    (omega (arith, l, ap length run), omega (arith, l, length-take (prefix_len in_word (b ∷ bs)) (b ∷ bs)), next_by_run vcd in_word b bs n e first (is_run b first) l)

-- one blank is skipped
pub one_blank : (text : List ℕ) → 2 ≤ length text → is_blank (get_or text 0 0) ≡ true → Skips false text (drop 1 text)
one_blank [] l h = absurd (omega (arith, l))
one_blank (b ∷ bs) l h = skip (b ∷ []) bs refl (blank h) stay

pub first_run : (text left : List ℕ) (gap n : ℕ) → gap ≤ length text → left ≡ drop gap text → (length left ≡ 0 → ⊥) → Skips false text left → begins_separator false left ≡ false → n ≡ length (take_while in_word left) → StartsBy text gap n
first_run text [] gap n l e some s b r = absurd (some refl)
first_run text (x ∷ xs) gap n l e some s b r =
    let p = starts x xs n b r in
    record {
      within = omega (arith, p.1, ap length e, length-drop gap text);
      some = p.0;
      skips = subst (λ z. Skips false text z) e s;
      next = subst (λ z. IsNext vcd z (take n z) (drop n z)) e p.2;
    }
