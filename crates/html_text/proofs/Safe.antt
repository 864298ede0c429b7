-- No byte that ends a text or a tag stands in what a text becomes.
use Rattle.std.proofs.Common.{◌≡◌, ◌∙◌, ℕ, ◌==◌, Bool, true, false, not, ◌&&◌, ◌||◌, cond, nat_le, nat_lt, List, [], ◌∷◌, ◌++◌, codes, flat_map, refl, sym, ap}
use Rattle.std.specs.List.{list_all}
use Rattle.html_text.specs.Escaped.{escaped, is_utf8, meant_from, reference, stands}
use Rattle.html_text.specs.Safe.{is_safe}

both : (xs ys : List ℕ) → list_all is_safe xs ≡ true → list_all is_safe ys ≡ true → list_all is_safe (xs ++ ys) ≡ true
both [] ys h k = k
both (x ∷ xs) ys h k = go (is_safe x) refl h (λ t. both xs ys t k)
  where
    go : (s : Bool) → s ≡ is_safe x → (is_safe x && list_all is_safe xs) ≡ true → (list_all is_safe xs ≡ true → list_all is_safe (xs ++ ys) ≡ true) → (is_safe x && list_all is_safe (xs ++ ys)) ≡ true
    go true e h more = ap (λ s. s && list_all is_safe (xs ++ ys)) (sym e) ∙ more (ap (λ s. s && list_all is_safe xs) e ∙ h)
    go false e h more = cc (e, h)

-- the reference of a byte that is given by its tests
abbrev pub by_tests : (amp lt gt quote tick plain : Bool) → ℕ → List ℕ
by_tests amp lt gt quote tick plain b =
    cond amp (codes "&amp;") (cond lt (codes "&lt;") (cond gt (codes "&gt;") (cond quote (codes "&quot;") (cond tick (codes "&#39;") (cond plain (b ∷ []) (codes "&#xFFFD;"))))))

one : (amp lt gt quote tick plain : Bool) (b : ℕ) → (b == 60) ≡ lt → (b == 62) ≡ gt → (b == 34) ≡ quote → (b == 39) ≡ tick → list_all is_safe (by_tests amp lt gt quote tick plain b) ≡ true
one true lt gt quote tick plain b l g q t = refl
one false true gt quote tick plain b l g q t = refl
one false false true quote tick plain b l g q t = refl
one false false false true tick plain b l g q t = refl
one false false false false true plain b l g q t = refl
one false false false false false false b l g q t = refl
one false false false false false true b l g q t = cc (l, g, q, t)

each : (good : Bool) (b : ℕ) → list_all is_safe (reference good b) ≡ true
each good b = one (b == 38) (b == 60) (b == 62) (b == 34) (b == 39) (stands b || (good && nat_le 128 b)) b refl refl refl refl

all : (good : Bool) (bs : List ℕ) → list_all is_safe (flat_map (reference good) bs) ≡ true
all good [] = refl
all good (b ∷ bs) = both (reference good b) (flat_map (reference good) bs) (each good b) (all good bs)

pub text_is_safe : (bytes : List ℕ) → list_all is_safe (escaped bytes) ≡ true
text_is_safe bytes = all (is_utf8 bytes) (meant_from false bytes)
