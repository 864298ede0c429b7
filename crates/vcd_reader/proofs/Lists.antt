-- Fronts of lists.
use Rattle.std.specs.Option.{option_map}
use Rattle.std.specs.Prelude.{slice_get}
use Rattle.std.proofs.Common.{◌≡◌, ℕ, zero, suc, ◌+◌, ◌<◌, ◌≤◌, Option, Some, None, List, [], ◌∷◌, ◌++◌, Vec, Global, vec_len, length, map, take, get_or, refl, ap, sym, ◌∙◌, arith, append_assoc}
use Rattle.std.proofs.lemmas.List.{map-append, take_all, take_more}
use Rattle.std.proofs.lemmas.Option.{slice_get-map}
use Rattle.rb_base.specs.declared.ports.Pin.{Pin}
use Rattle.vcd_syntax.specs.Meaning.{pins_by}
use Rattle.vcd_reader.specs.Rows.{IsAdded}

pub get-take : {X : Type 0} (xs : List X) (n j : ℕ) → j < n → slice_get (take n xs) j ≡ slice_get xs j
get-take [] zero j l = absurd (omega arith)
get-take [] (suc n) j l = refl
get-take (x ∷ xs) zero j l = absurd (omega arith)
get-take (x ∷ xs) (suc n) zero l = refl
get-take (x ∷ xs) (suc n) (suc j) l = get-take xs n j (omega (arith, l))

-- Rows.

pub row_whole : (old new row : List ℕ) (now : List (Option ℕ)) (at : ℕ) → new ≡ old ++ row → map Some row ≡ take at now → length now ≤ at → IsAdded old new now None
row_whole old new row now at e f l = (row, e, f ∙ take_all at now l)

pub row_broken : (old new row : List ℕ) (now : List (Option ℕ)) (at : ℕ) → map Some row ≡ take at now → slice_get now at ≡ Some None → IsAdded old new now (Some at)
row_broken old new row now at f g = (g, before)
  where
    never : (o : Option ℕ) → option_map Some o ≡ Some None → ⊥
    never (Some x) e = cc
    never None e = cc

    before : (j : ℕ) → j < at → slice_get now j ≡ Some None → ⊥
    before j l e = never (slice_get row j) (sym (slice_get-map Some row j) ∙ (ap (λ z. slice_get z j) f ∙ (get-take now at j l ∙ e)))

pub row_more : (old values new row : List ℕ) (now : List (Option ℕ)) (at x : ℕ) → values ≡ old ++ row → map Some row ≡ take at now → new ≡ values ++ (x ∷ []) → at < length now → Some x ≡ get_or now at None
    → (longer : List ℕ) × (new ≡ old ++ longer) × (map Some longer ≡ take (at + 1) now)
row_more old values new row now at x e f g l h = (
  row ++ (x ∷ []),
  g ∙ (ap (λ z. z ++ (x ∷ [])) e ∙ append_assoc old row (x ∷ [])),
  map-append Some row (x ∷ []) ∙ (ap (λ z. z ++ (Some x ∷ [])) f ∙ (ap (λ z. take at now ++ (z ∷ [])) h ∙ sym (take_more now at None l))),
)

pub vec_long : {X : Type 0} (n : ℕ) (xs : Vec X Global) → n ≡ vec_len xs → n ≡ length xs.items
vec_long n xs e = omega (arith, e, xs.ok.0)

-- Pins.

abbrev pub pin : List ℕ → ℕ → Pin
pin n w = record { name = n; width = w }

pins_by-append : (ns : List (List ℕ)) (ws : List ℕ) (n : List ℕ) (w : ℕ) → length ns ≡ length ws → pins_by (ns ++ (n ∷ [])) (ws ++ (w ∷ [])) ≡ pins_by ns ws ++ (pin n w ∷ [])
pins_by-append [] [] n w e = refl
pins_by-append [] (v ∷ ws) n w e = absurd (omega (arith, e))
pins_by-append (m ∷ ns) [] n w e = absurd (omega (arith, e))
pins_by-append (m ∷ ns) (v ∷ ws) n w e = ap (λ z. pin m v ∷ z) (pins_by-append ns ws n w (omega (arith, e)))

length-take-same : {X Y : Type 0} (xs : List X) (ys : List Y) (i : ℕ) → length xs ≡ length ys → length (take i xs) ≡ length (take i ys)
length-take-same [] [] zero e = refl
length-take-same [] [] (suc i) e = refl
length-take-same [] (y ∷ ys) i e = absurd (omega (arith, e))
length-take-same (x ∷ xs) [] i e = absurd (omega (arith, e))
length-take-same (x ∷ xs) (y ∷ ys) zero e = refl
length-take-same (x ∷ xs) (y ∷ ys) (suc i) e = ap suc (length-take-same xs ys i (omega (arith, e)))

take_get : {X : Type 0} (xs : List X) (i : ℕ) (x : X) → slice_get xs i ≡ Some x → take (i + 1) xs ≡ take i xs ++ (x ∷ [])
take_get {X = X} xs i x e = let next : i + 1 ≡ suc i = omega arith in ap (λ n. take n xs) next ∙ go xs i e
  where
    go : (xs : List X) (i : ℕ) → slice_get xs i ≡ Some x → take (suc i) xs ≡ take i xs ++ (x ∷ [])
    go [] i e = cc
    go (y ∷ xs) zero e = let one : y ≡ x = cc in ap (λ z. z ∷ []) one
    go (y ∷ xs) (suc i) e = ap (λ z. y ∷ z) (go xs i e)

pub pins_more : (ns : List (List ℕ)) (ws : List ℕ) (i : ℕ) (n : List ℕ) (w : ℕ) → length ns ≡ length ws → slice_get ns i ≡ Some n → slice_get ws i ≡ Some w
    → pins_by (take (i + 1) ns) (take (i + 1) ws) ≡ pins_by (take i ns) (take i ws) ++ (pin n w ∷ [])
pins_more ns ws i n w e f g =
    ap (λ z. pins_by z (take (i + 1) ws)) (take_get ns i n f) ∙ (ap (pins_by (take i ns ++ (n ∷ []))) (take_get ws i w g) ∙ pins_by-append (take i ns) (take i ws) n w (length-take-same ns ws i e))
