-- The cells of a row that is kept, and of one in its place.
use Rattle.std.specs.List.{flat_map, between}
use Rattle.report_text.specs.Printed.{cell, line}
use Rattle.report_text.specs.KeptRow.{cell_lengths, next_cell, next_cells}
use Rattle.std.proofs.Common.{◌≡◌, ◌∙◌, ℕ, zero, suc, ◌+◌, ◌<◌, ◌≤◌, List, [], ◌∷◌, ◌++◌, length, take, drop, get_or, set, refl, ap, sym, append_assoc, append-nil, arith, codes, map}
use Rattle.std.proofs.lemmas.List.{get_or-map, map-set, map_more, take_all, take_at, take_more, take-append-drop, drop_all, drop-append-le, length-append}
use Rattle.std.proofs.lemmas.List.Concat.{flat_map-append}
use Rattle.std.proofs.lemmas.Slice.{between_is}

-- the first numbers of one row before the others of another
abbrev pub renewed : ℕ → List ℕ → List ℕ → List ℕ
renewed i ys xs = take i ys ++ drop i xs

pub renewed_all : (i : ℕ) (ys xs : List ℕ) → length xs ≡ length ys → length ys ≤ i → renewed i ys xs ≡ ys
renewed_all i ys xs e l = ap (λ z. z ++ drop i xs) (take_all i ys l) ∙ (ap (λ z. ys ++ z) (drop_all i xs (omega (arith, e, l))) ∙ append-nil ys)

pub length_renewed : (i : ℕ) (ys xs : List ℕ) → length xs ≡ length ys → length (renewed i ys xs) ≡ length ys
length_renewed zero ys xs e = e
length_renewed (suc i) [] [] e = refl
length_renewed (suc i) (y ∷ ys) [] e = absurd (omega (arith, e))
length_renewed (suc i) [] (x ∷ xs) e = absurd (omega (arith, e))
length_renewed (suc i) (y ∷ ys) (x ∷ xs) e = ap (λ n. suc n) (length_renewed i ys xs (omega (arith, e)))

pub renewed_at : (i : ℕ) (ys xs : List ℕ) (d : ℕ) → length xs ≡ length ys → i < length ys → get_or (renewed i ys xs) i d ≡ get_or xs i d
renewed_at zero ys xs d e l = refl
renewed_at (suc i) [] xs d e l = absurd (omega (arith, l))
renewed_at (suc i) (y ∷ ys) [] d e l = absurd (omega (arith, e))
renewed_at (suc i) (y ∷ ys) (x ∷ xs) d e l = renewed_at i ys xs d (omega (arith, e)) (omega (arith, l))

next_same : (i : ℕ) (ys xs : List ℕ) (d : ℕ) → length xs ≡ length ys → i < length ys → get_or ys i d ≡ get_or xs i d → renewed (suc i) ys xs ≡ renewed i ys xs
next_same i [] xs d e l s = absurd (omega (arith, l))
next_same i (y ∷ ys) [] d e l s = absurd (omega (arith, e))
next_same zero (y ∷ ys) (x ∷ xs) d e l s = ap (λ z. z ∷ xs) s
next_same (suc i) (y ∷ ys) (x ∷ xs) d e l s = ap (λ zs. y ∷ zs) (next_same i ys xs d (omega (arith, e)) (omega (arith, l)) s)

next_set : (i : ℕ) (ys xs : List ℕ) (d : ℕ) → length xs ≡ length ys → i < length ys → set (renewed i ys xs) i (get_or ys i d) ≡ renewed (suc i) ys xs
next_set i [] xs d e l = absurd (omega (arith, l))
next_set i (y ∷ ys) [] d e l = absurd (omega (arith, e))
next_set zero (y ∷ ys) (x ∷ xs) d e l = refl
next_set (suc i) (y ∷ ys) (x ∷ xs) d e l = ap (λ zs. y ∷ zs) (next_set i ys xs d (omega (arith, e)) (omega (arith, l)))

-- a number that stays
pub renewed_same : (i : ℕ) (ys xs : List ℕ) (d : ℕ) → length xs ≡ length ys → i < length ys → get_or ys i d ≡ get_or xs i d → renewed (i + 1) ys xs ≡ renewed i ys xs
renewed_same i ys xs d e l s =
    let next : i + 1 ≡ suc i = omega arith in
    ap (λ n. renewed n ys xs) next ∙ next_same i ys xs d e l s

-- a number that moves
pub renewed_set : (i : ℕ) (ys xs : List ℕ) (d : ℕ) → length xs ≡ length ys → i < length ys → set (renewed i ys xs) i (get_or ys i d) ≡ renewed (i + 1) ys xs
renewed_set i ys xs d e l =
    let next : suc i ≡ i + 1 = omega arith in
    next_set i ys xs d e l ∙ ap (λ n. renewed n ys xs) next

-- the texts of the first numbers
abbrev pub before : (ℕ → List ℕ) → ℕ → List ℕ → List ℕ
before f i xs = flat_map f (take i xs)

pub before_more : (f : ℕ → List ℕ) (xs : List ℕ) (i d : ℕ) → i < length xs → before f (i + 1) xs ≡ before f i xs ++ f (get_or xs i d)
before_more f xs i d l =
    ap (flat_map f) (take_more xs i d l) ∙ (flat_map-append f (take i xs) (get_or xs i d ∷ []) ∙ ap (λ z. before f i xs ++ z) (append-nil (f (get_or xs i d))))

pub before_all : (f : ℕ → List ℕ) (xs : List ℕ) (i : ℕ) → length xs ≤ i → before f i xs ≡ flat_map f xs
before_all f xs i l = ap (flat_map f) (take_all i xs l)

before_rest : (f : ℕ → List ℕ) (xs : List ℕ) (i : ℕ) → flat_map f xs ≡ before f i xs ++ flat_map f (drop i xs)
before_rest f xs i = ap (flat_map f) (sym (take-append-drop i xs)) ∙ flat_map-append f (take i xs) (drop i xs)

pub before_fits : (f : ℕ → List ℕ) (xs : List ℕ) (i : ℕ) → length (before f i xs) ≤ length (flat_map f xs)
before_fits f xs i = omega (arith, ap length (before_rest f xs i), length-append (before f i xs) (flat_map f (drop i xs)))

-- what stands between a place and the text of a number
pub stretch : (f : ℕ → List ℕ) (xs : List ℕ) (i from to : ℕ) → to ≡ length (before f i xs) → between from to (flat_map f xs) ≡ drop from (before f i xs)
stretch f xs i from to e =
    between_is (flat_map f xs) from to
    ∙ ap (drop from) (ap (λ n. take n (flat_map f xs)) e ∙ (ap (take (length (before f i xs))) (before_rest f xs i) ∙ take_at (before f i xs) (flat_map f (drop i xs)) (length (before f i xs)) refl))

module _ (f : ℕ → List ℕ) (old ys xs : List ℕ) (i d : ℕ) (l : i < length xs) (k : i < length ys) where
  -- one more number that stays
  pub stays : (text : List ℕ) (from : ℕ) → from ≤ length (before f i xs) → get_or ys i d ≡ get_or xs i d → text ++ drop from (before f i xs) ≡ old ++ before f i ys
      → text ++ drop from (before f (i + 1) xs) ≡ old ++ before f (i + 1) ys
  stays text from fits same is =
      let x = f (get_or xs i d) in
      let rest : drop from (before f (i + 1) xs) ≡ drop from (before f i xs) ++ x = ap (drop from) (before_more f xs i d l) ∙ drop-append-le from (before f i xs) x fits in
      ap (λ z. text ++ z) rest ∙ (sym (append_assoc text (drop from (before f i xs)) x) ∙ (ap (λ z. z ++ x) is ∙ (append_assoc old (before f i ys) x ∙ ap (λ z. old ++ z) (ap (λ n. before f i ys ++ f n) (sym same) ∙ sym (before_more f ys i d k)))))

  -- one that moves
  pub moves : (text text' text'' part : List ℕ) (from from' : ℕ) → text ++ drop from (before f i xs) ≡ old ++ before f i ys → part ≡ drop from (before f i xs) → text' ≡ text ++ part
      → text'' ≡ text' ++ f (get_or ys i d) → from' ≡ length (before f (i + 1) xs) → text'' ++ drop from' (before f (i + 1) xs) ≡ old ++ before f (i + 1) ys
  moves text text' text'' part from from' is p first second e =
      let y = f (get_or ys i d) in
      let none : drop from' (before f (i + 1) xs) ≡ [] = drop_all from' (before f (i + 1) xs) (omega (arith, e)) in
      let now : text' ≡ old ++ before f i ys = first ∙ (ap (λ z. text ++ z) p ∙ is) in
      ap (λ z. text'' ++ z) none ∙ (append-nil text'' ∙ (second ∙ (ap (λ z. z ++ y) now ∙ (append_assoc old (before f i ys) y ∙ ap (λ z. old ++ z) (sym (before_more f ys i d k))))))

-- cells behind commas, without the first comma
commas : (xs : List ℕ) → next_cells xs ≡ flat_map (λ d. codes "," ++ d) (map cell xs)
commas [] = refl
commas (x ∷ xs) = ap (λ z. (44 ∷ cell x) ++ z) (commas xs)

pub line_is : (xs : List ℕ) → drop 1 (next_cells xs) ++ 10 ∷ [] ≡ line (map cell xs)
line_is [] = refl
line_is (x ∷ xs) = ap (λ z. (cell x ++ z) ++ 10 ∷ []) (commas xs)

-- after so many numbers, of a row in the place of a kept one
pub record Progress (xs ys old : List ℕ) (i moved from to : ℕ) (kept lengths text : List ℕ) : Type 0 where
  pub few : moved ≤ i
  pub order : from ≤ to
  pub place : to ≡ length (before next_cell i xs)
  pub taken : kept ≡ renewed i ys xs
  pub measured : lengths ≡ cell_lengths kept
  pub printed : text ++ drop from (before next_cell i xs) ≡ old ++ before next_cell i ys

module _ (xs ys old : List ℕ) (i moved from to len : ℕ) (kept lengths text : List ℕ) (same : length xs ≡ length ys) (l : i < length ys) (p : Progress xs ys old i moved from to kept lengths text) (read : len ≡ get_or lengths i 0) where
  inside : i < length xs
  inside = omega (arith, same, l)

  was : get_or kept i 0 ≡ get_or xs i 0
  was = ap (λ z. get_or z i 0) p.taken ∙ renewed_at i ys xs 0 same l

  many : length kept ≡ length ys
  many = ap length p.taken ∙ length_renewed i ys xs same

  -- where the cell ends
  pub place_more : to + len ≡ length (before next_cell (i + 1) xs)
  place_more =
      let size : len ≡ length (next_cell (get_or xs i 0)) =
      read ∙ (ap (λ z. get_or z i 0) p.measured ∙ (get_or-map (λ x. length (next_cell x)) kept i 0 0 (omega (arith, many, l)) ∙ ap (λ x. length (next_cell x)) was)) in
      omega (arith, p.place, size, ap length (before_more next_cell xs i 0 inside), length-append (before next_cell i xs) (next_cell (get_or xs i 0)))

  pub place_fits : (cells : List ℕ) → cells ≡ next_cells xs → to + len ≤ length cells
  place_fits cells e = omega (arith, place_more, before_fits next_cell xs (i + 1), ap length e)

  pub number_stays : (kept' lengths' text' : List ℕ) (moved' from' : ℕ) → get_or ys i 0 ≡ get_or kept i 0 → kept' ≡ kept → lengths' ≡ lengths → text' ≡ text → moved' ≡ moved → from' ≡ from
      → Progress xs ys old (i + 1) moved' from' (to + len) kept' lengths' text'
  number_stays kept' lengths' text' moved' from' stay k s t m f = record {
    few = omega (arith, p.few, m);
    order = omega (arith, p.order, f);
    place = place_more;
    taken = k ∙ (p.taken ∙ sym (renewed_same i ys xs 0 same l (stay ∙ was)));
    measured = s ∙ (p.measured ∙ ap cell_lengths (sym k));
    printed = ap (λ z. z ++ drop from' (before next_cell (i + 1) xs)) t ∙ (ap (λ n. text ++ drop n (before next_cell (i + 1) xs)) f
        ∙ stays next_cell old ys xs i 0 inside l text from (omega (arith, p.order, p.place)) (stay ∙ was) p.printed);
  }

  pub number_moves : (cells kept' lengths' text' text'' : List ℕ) (moved' from' n : ℕ) → cells ≡ next_cells xs → kept' ≡ set kept i (get_or ys i 0) → lengths' ≡ set lengths i n
      → n ≡ length (next_cell (get_or ys i 0)) → text' ≡ text ++ between from to cells → text'' ≡ text' ++ next_cell (get_or ys i 0) → moved' ≡ moved + 1 → from' ≡ to + len
      → Progress xs ys old (i + 1) moved' from' (to + len) kept' lengths' text''
  number_moves cells kept' lengths' text' text'' moved' from' n c k s size t u m f = record {
    few = omega (arith, p.few, m);
    order = omega (arith, f);
    place = place_more;
    taken = k ∙ (ap (λ z. set z i (get_or ys i 0)) p.taken ∙ renewed_set i ys xs 0 same l);
    measured = s ∙ (ap (λ z. set z i n) p.measured ∙ (ap (set (cell_lengths kept) i) size ∙ (sym (map-set (λ x. length (next_cell x)) kept i (get_or ys i 0)) ∙ ap cell_lengths (sym k))));
    printed = moves next_cell old ys xs i 0 inside l text text' text'' (between from to cells) from from' p.printed
        (ap (between from to) c ∙ stretch next_cell xs i from to p.place) t u (f ∙ place_more);
  }

pub cells_more : (xs : List ℕ) (i d : ℕ) → i < length xs → next_cells (take (i + 1) xs) ≡ next_cells (take i xs) ++ next_cell (get_or xs i d)
cells_more xs i d l = before_more next_cell xs i d l

pub lengths_more : (xs : List ℕ) (i d : ℕ) → i < length xs → cell_lengths (take (i + 1) xs) ≡ cell_lengths (take i xs) ++ length (next_cell (get_or xs i d)) ∷ []
lengths_more xs i d l = map_more (λ x. length (next_cell x)) xs i d l
