-- Where separators end is determined.
use Rattle.std.specs.List.{list_all}
use Rattle.std.proofs.Common.{◌≡◌, ℕ, Bool, true, false, List, [], ◌∷◌, ◌++◌, codes, refl, ap, sym, ◌∙◌, subst, arith, append_assoc}
use Rattle.std.proofs.lemmas.Bool.{and_parts, both_ways}
use Rattle.std.proofs.lemmas.Bool.Decides.{nat_tests}
use Rattle.rb_grammar.specs.Separators.{is_blank, is_in_line, EndsLine, Lacks, IsSeparator, blank, line_comment, block_comment, Skips, stay, skip, begins_separator}

-- no separator stands at the front of the text
abbrev pub Halts : Bool → List ℕ → Type 0
Halts comments left = (separator rest : List ℕ) → left ≡ separator ++ rest → IsSeparator comments separator rest → ⊥

slash_no_blank : (b : ℕ) → is_blank b ≡ true → b ≡ 47 → ⊥
slash_no_blank b h e = let P : ℕ → Type 0 = λ z. is_blank z ≡ true in let f : false ≡ true = subst P e h in cc

line_at : (body rest separator : List ℕ) → separator ≡ codes "//" ++ body → separator ++ rest ≡ 47 ∷ 47 ∷ (body ++ rest)
line_at body rest separator e = ap (λ z. z ++ rest) e

block_at : (body rest separator : List ℕ) → separator ≡ codes "/*" ++ (body ++ codes "*/") → separator ++ rest ≡ 47 ∷ 42 ∷ (body ++ (42 ∷ 47 ∷ rest))
block_at body rest separator e = ap (λ z. z ++ rest) e ∙ ap (λ z. 47 ∷ 42 ∷ z) (append_assoc body (codes "*/") rest)

-- a line comment and a comment between marks differ in their second byte
two_comments : (x y : List ℕ) → 47 ∷ 47 ∷ x ≡ 47 ∷ 42 ∷ y → ⊥
two_comments x y e = let f : ◌≡◌ {A = ℕ} 47 42 = cc in omega (arith, f)

not_newline : (b : ℕ) → is_in_line b ≡ true → b ≡ 10 → ⊥
not_newline b h e = grind (arith, nat_tests)

line_once : (a b r s : List ℕ) → list_all is_in_line a ≡ true → list_all is_in_line b ≡ true → EndsLine r → EndsLine s → a ++ r ≡ b ++ s → r ≡ s
line_once [] [] r s p q k l e = e
line_once [] (y ∷ b) [] s p q k l e = cc
line_once [] (y ∷ b) (x ∷ r) s p q k l e = absurd (not_newline y (and_parts (is_in_line y) (list_all is_in_line b) q).0 (let f : x ≡ y = cc in cc))
line_once (x ∷ a) [] r [] p q k l e = cc
line_once (x ∷ a) [] r (y ∷ s) p q k l e = absurd (not_newline x (and_parts (is_in_line x) (list_all is_in_line a) p).0 (let f : x ≡ y = cc in cc))
line_once (x ∷ a) (y ∷ b) r s p q k l e = line_once a b r s (and_parts (is_in_line x) (list_all is_in_line a) p).1 (and_parts (is_in_line y) (list_all is_in_line b) q).1 k l cc

lacks_later : (x : ℕ) (a mark : List ℕ) → Lacks (x ∷ a) mark → Lacks a mark
lacks_later x a mark h before after e = h (x ∷ before) after (ap (λ z. x ∷ z) e)

-- where a body without an end mark stands before one, it ends no later than another before an end mark does
body_first : (b r s : List ℕ) → Lacks b (codes "*/") → 42 ∷ 47 ∷ r ≡ b ++ (42 ∷ 47 ∷ s) → r ≡ s
body_first [] r s h e = cc
body_first (c ∷ []) r s h e = absurd (let f : ◌≡◌ {A = ℕ} 47 42 = cc in omega (arith, f))
body_first (c ∷ d ∷ b) r s h e = absurd (h [] b (let f : 42 ≡ c = cc in let g : 47 ≡ d = cc in cc))

body_once : (a b r s : List ℕ) → Lacks a (codes "*/") → Lacks b (codes "*/") → a ++ (42 ∷ 47 ∷ r) ≡ b ++ (42 ∷ 47 ∷ s) → r ≡ s
body_once [] b r s p q e = body_first b r s q e
body_once (x ∷ a) [] r s p q e = sym (body_first (x ∷ a) s r p (sym e))
body_once (x ∷ a) (y ∷ b) r s p q e = body_once a b r s (lacks_later x a (codes "*/") p) (lacks_later y b (codes "*/") q) cc

separator_once : (c : Bool) (s t x y : List ℕ) → IsSeparator c s x → IsSeparator c t y → s ++ x ≡ t ++ y → x ≡ y
separator_once c _ _ x y (blank {b = b} p) (blank {b = d} q) e = cc
separator_once c _ t x y (blank {b = b} p) (line_comment body q f n l) e = absurd (slash_no_blank b p (let g : b ∷ x ≡ 47 ∷ 47 ∷ (body ++ y) = e ∙ line_at body y t f in cc))
separator_once c _ t x y (blank {b = b} p) (block_comment body q f n) e = absurd (slash_no_blank b p (let g : b ∷ x ≡ 47 ∷ 42 ∷ (body ++ (42 ∷ 47 ∷ y)) = e ∙ block_at body y t f in cc))
separator_once c s _ x y (line_comment body p f n l) (blank {b = d} q) e = absurd (slash_no_blank d q (let g : 47 ∷ 47 ∷ (body ++ x) ≡ d ∷ y = sym (line_at body x s f) ∙ e in cc))
separator_once c s t x y (line_comment body p f n l) (line_comment body' q g m k) e =
    let h : 47 ∷ 47 ∷ (body ++ x) ≡ 47 ∷ 47 ∷ (body' ++ y) = sym (line_at body x s f) ∙ (e ∙ line_at body' y t g) in
    line_once body body' x y n m l k cc
separator_once c s t x y (line_comment body p f n l) (block_comment body' q g m) e = absurd (two_comments _ _ (sym (line_at body x s f) ∙ (e ∙ block_at body' y t g)))
separator_once c s _ x y (block_comment body p f n) (blank {b = d} q) e = absurd (slash_no_blank d q (let g : 47 ∷ 42 ∷ (body ++ (42 ∷ 47 ∷ x)) ≡ d ∷ y = sym (block_at body x s f) ∙ e in cc))
separator_once c s t x y (block_comment body p f n) (line_comment body' q g m k) e = absurd (two_comments _ _ (sym (line_at body' y t g) ∙ (sym e ∙ block_at body x s f)))
separator_once c s t x y (block_comment body p f n) (block_comment body' q g m) e =
    let h : 47 ∷ 42 ∷ (body ++ (42 ∷ 47 ∷ x)) ≡ 47 ∷ 42 ∷ (body' ++ (42 ∷ 47 ∷ y)) = sym (block_at body x s f) ∙ (e ∙ block_at body' y t g) in
    body_once body body' x y n m cc

-- Separators lead to one place where none stands.
pub skips_once : (c : Bool) (text l m : List ℕ) → Skips c text l → Skips c text m → Halts c l → Halts c m → l ≡ m
skips_once c text _ _ stay stay h k = refl
skips_once c text _ m stay (skip s r e p q) h k = absurd (h s r e p)
skips_once c text l _ (skip s r e p q) stay h k = absurd (k s r e p)
skips_once c text l m (skip s r e p q) (skip t u f v w) h k =
    let same : r ≡ u = separator_once c s t r u p v (sym e ∙ f) in
    skips_once c r l m q (let P : List ℕ → Type 0 = λ z. Skips c z m in subst P (sym same) w) h k

-- No separator stands at the end of a text, where none begins, or at a comment that is not closed.
pub halts_at_end : (c : Bool) → Halts c []
halts_at_end c _ rest e (blank p) = cc
halts_at_end c s rest e (line_comment body p f n l) = let g : [] ≡ 47 ∷ 47 ∷ (body ++ rest) = e ∙ line_at body rest s f in cc
halts_at_end c s rest e (block_comment body p f n) = let g : [] ≡ 47 ∷ 42 ∷ (body ++ (42 ∷ 47 ∷ rest)) = e ∙ block_at body rest s f in cc

begins : (c : Bool) (s rest : List ℕ) → IsSeparator c s rest → begins_separator c (s ++ rest) ≡ true
begins c _ rest (blank {b = b} p) = rw p refl
begins c s rest (line_comment body p f n l) = rw (line_at body rest s f, p) refl
begins c s rest (block_comment body p f n) = rw (block_at body rest s f, p) refl

pub halts_at_bare : (c : Bool) (left : List ℕ) → begins_separator c left ≡ false → Halts c left
halts_at_bare c left h s rest e p = both_ways (begins_separator c left) h (ap (begins_separator c) e ∙ begins c s rest p)

pub halts_at_open : (c : Bool) (left body : List ℕ) → left ≡ codes "/*" ++ body → Lacks body (codes "*/") → Halts c left
halts_at_open c left body e h _ rest f (blank {b = b} p) = slash_no_blank b p (let g : 47 ∷ 42 ∷ body ≡ b ∷ rest = sym e ∙ f in cc)
halts_at_open c left body e h s rest f (line_comment body' p g n l) = two_comments _ _ (sym (line_at body' rest s g) ∙ (sym f ∙ e))
halts_at_open c left body e h s rest f (block_comment body' p g n) =
    let k : 47 ∷ 42 ∷ body ≡ 47 ∷ 42 ∷ (body' ++ (42 ∷ 47 ∷ rest)) = sym e ∙ (f ∙ block_at body' rest s g) in
    h body' rest cc
