-- Lists of texts, no two of them the same.
use Rattle.std.proofs.Common.{◌≡◌, ◌≢◌, ◌∙◌, ℕ, Bool, true, false, not, ◌&&◌, List, [], ◌∷◌, map, filter, cond, bytes_eq, refl, sym, ap}
use Rattle.std.specs.Cmp.Lexicographic.{bytes_decides}
use Rattle.std.specs.List.{AllByRecursion, list_all}
use Rattle.plain_lemmas.proofs.Lists.{each-filter}
use Rattle.rb_model.specs.Sound.{is_path}
use Rattle.v_design.specs.Lexemes.{among}
use Rattle.v_design.specs.WellFormed.{distinct}
use Rattle.rdl_nodes.proofs.Apart.{Apart, apart-map}

not_among : (w : List ℕ) (ws : List (List ℕ)) → AllByRecursion (λ v. w ≢ v) ws → among ws w ≡ false
not_among w [] h = refl
not_among w (v ∷ vs) h = go (bytes_eq v w) refl (not_among w vs h.1)
  where
    go : (b : Bool) → bytes_eq v w ≡ b → among vs w ≡ false → among (v ∷ vs) w ≡ false
    go true e rest = absurd (h.0 (sym ((bytes_decides v w).0 e)))
    go false e rest = rw e rest

distinct_texts : (ws : List (List ℕ)) → Apart (λ v w. v ≢ w) ws → distinct ws ≡ true
distinct_texts [] h = refl
distinct_texts (w ∷ ws) h = ap (λ b. not b && distinct ws) (not_among w ws h.0) ∙ distinct_texts ws h.1

pub distinct_by : {X : Type 0} (f : X → List ℕ) (xs : List X) → Apart (λ x y. f x ≢ f y) xs → distinct (map f xs) ≡ true
distinct_by f xs h = distinct_texts (map f xs) (apart-map (λ v w. v ≢ w) f xs h)

all_paths : {X : Type 0} (path : X → List ℕ) (xs : List X) → list_all (λ x. is_path (path x)) xs ≡ list_all is_path (map path xs)
all_paths path [] = refl
all_paths path (x ∷ xs) = ap (λ b. is_path (path x) && b) (all_paths path xs)

mapped_paths : {Y : Type 0} (text : Y → List ℕ) (ys : List Y) → AllByRecursion (λ y. is_path (text y) ≡ true) ys → list_all is_path (map text ys) ≡ true
mapped_paths text [] h = refl
mapped_paths text (y ∷ ys) h = ap (λ b. b && list_all is_path (map text ys)) h.0 ∙ mapped_paths text ys h.1

-- things whose paths are the texts of others, which are paths and differ
pub good_paths : {X Y : Type 0} (path : X → List ℕ) (xs : List X) (text : Y → List ℕ) (ys : List Y) → map path xs ≡ map text ys → Apart (λ x y. text x ≢ text y) ys → AllByRecursion (λ y. is_path (text y) ≡ true) ys
    → distinct (map path xs) && list_all (λ x. is_path (path x)) xs ≡ true
good_paths path xs text ys e a h =
    ap (λ ws. distinct ws && list_all (λ x. is_path (path x)) xs) e
    ∙ ap (λ b. b && list_all (λ x. is_path (path x)) xs) (distinct_by text ys a)
    ∙ all_paths path xs ∙ ap (list_all is_path) e ∙ mapped_paths text ys h

pub apart-filter : {X : Type 0} (R : X → X → Type 0) (p : X → Bool) (xs : List X) → Apart R xs → Apart R (filter p xs)
apart-filter R p [] h = tt
apart-filter R p (x ∷ xs) h = go (p x) (each-filter (R x) p xs h.0) (apart-filter R p xs h.1)
  where
    go : (b : Bool) → AllByRecursion (R x) (filter p xs) → Apart R (filter p xs) → Apart R (cond b (x ∷ filter p xs) (filter p xs))
    go true g k = (g, k)
    go false g k = k
