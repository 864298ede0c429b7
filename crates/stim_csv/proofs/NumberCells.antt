-- Numbers in cells.
use Rattle.std.specs.List.{list_all}
use Rattle.std.proofs.Common.{◌≡◌, ℕ, zero, suc, take, drop, ◌-◌, ◌<◌, Bool, true, false, nat_lt, cond, List, [], ◌∷◌, ◌++◌, length, get_or, refl, ap, sym, ◌∙◌, subst, arith, length-append}
use Rattle.std.proofs.lemmas.Bool.Decides.{nat_tests}
use Rattle.std.proofs.lemmas.List.{get_or_append_left, map-append, take-map, drop-map}
use Rattle.std.proofs.lemmas.List.Folds.{list_all-append}
use Rattle.plain_lemmas.proofs.Bools.{and-both, and-both_true}
use Rattle.stim_csv.specs.Numbers.{number_in, numbers_in, is_cell, AreCells, IsMore}

-- a cell has the same number among more wide ones
cell_stays : (wide more : List ℕ) (cell : ℕ) → is_cell (length wide) cell ≡ true → (is_cell (length (wide ++ more)) cell ≡ true) × (number_in (wide ++ more) cell ≡ number_in wide cell)
cell_stays wide more cell e = (
  (let l = length-append wide more in grind (arith, nat_tests)),
  by (nat_lt cell 2147483648) refl,
)
  where
    by : (b : Bool) → nat_lt cell 2147483648 ≡ b → number_in (wide ++ more) cell ≡ number_in wide cell
    by true l = ap (λ b. cond b cell (get_or (wide ++ more) (cell - 2147483648) 0)) l ∙ sym (ap (λ b. cond b cell (get_or wide (cell - 2147483648) 0)) l)
    by false l =
        let within : cell - 2147483648 < length wide = grind (arith, nat_tests) in
        ap (λ b. cond b cell (get_or (wide ++ more) (cell - 2147483648) 0)) l ∙ (get_or_append_left wide more 0 (cell - 2147483648) within ∙ sym (ap (λ b. cond b cell (get_or wide (cell - 2147483648) 0)) l))

pub cells_stay : (wide more cells : List ℕ) → AreCells wide cells → AreCells (wide ++ more) cells × (numbers_in (wide ++ more) cells ≡ numbers_in wide cells)
cells_stay wide more [] h = (refl, refl)
cells_stay wide more (c ∷ cs) h =
    let p = and-both (is_cell (length wide) c) (list_all (is_cell (length wide)) cs) h in
    let first = cell_stays wide more c p.0 in
    let rest = cells_stay wide more cs p.1 in
    (and-both_true (is_cell (length (wide ++ more)) c) (list_all (is_cell (length (wide ++ more))) cs) first.0 rest.0, ap (λ n. n ∷ numbers_in (wide ++ more) cs) first.1 ∙ ap (λ ns. number_in wide c ∷ ns) rest.1)

pub kept_cells : (wide wider cells : List ℕ) → AreCells wide cells → IsMore wide wider → AreCells wider cells
kept_cells wide wider cells h m = subst (λ w. AreCells w cells) (sym m.1) (cells_stay wide m.0 cells h).0

-- one cell more
pub pushed : (wide wider cells after : List ℕ) (cell number : ℕ) → AreCells wide cells → IsMore wide wider → (is_cell (length wider) cell ≡ true) × (number_in wider cell ≡ number) → after ≡ cells ++ (cell ∷ [])
    → AreCells wider after × (numbers_in wider after ≡ numbers_in wide cells ++ (number ∷ []))
pushed wide wider cells after cell number h m is a =
    let test = is_cell (length wider) in
    let all : list_all test (cells ++ (cell ∷ [])) ≡ true = list_all-append test cells (cell ∷ []) ∙ and-both_true (list_all test cells) (list_all test (cell ∷ [])) (kept_cells wide wider cells h m) (and-both_true (test cell) true is.0 refl) in
    let same : numbers_in wider cells ≡ numbers_in wide cells = ap (λ w. numbers_in w cells) m.1 ∙ (cells_stay wide m.0 cells h).1 in (
      subst (λ cs. AreCells wider cs) (sym a) all,
      ap (numbers_in wider) a ∙ (map-append (number_in wider) cells (cell ∷ []) ∙ (ap (λ ns. ns ++ (number_in wider cell ∷ [])) same ∙ ap (λ n. numbers_in wide cells ++ (n ∷ [])) is.1)),
    )

all_of_rest : (test : ℕ → Bool) (k : ℕ) (xs : List ℕ) → list_all test xs ≡ true → list_all test (drop k xs) ≡ true
all_of_rest test zero xs h = h
all_of_rest test (suc k) [] h = h
all_of_rest test (suc k) (x ∷ xs) h = all_of_rest test k xs (and-both (test x) (list_all test xs) h).1

all_of_first : (test : ℕ → Bool) (k : ℕ) (xs : List ℕ) → list_all test xs ≡ true → list_all test (take k xs) ≡ true
all_of_first test zero xs h = refl
all_of_first test (suc k) [] h = h
all_of_first test (suc k) (x ∷ xs) h = let both = and-both (test x) (list_all test xs) h in and-both_true (test x) (list_all test (take k xs)) both.0 (all_of_first test k xs both.1)

-- some of the cells once more
pub again : (wide cells after numbers : List ℕ) (from count : ℕ) → AreCells wide cells → numbers_in wide cells ≡ numbers → after ≡ cells ++ take count (drop from cells)
    → AreCells wide after × (numbers_in wide after ≡ numbers ++ take count (drop from numbers))
again wide cells after numbers from count h is a =
    let test = is_cell (length wide) in
    let part = take count (drop from cells) in
    let all : list_all test (cells ++ part) ≡ true = list_all-append test cells part ∙ and-both_true (list_all test cells) (list_all test part) h (all_of_first test count (drop from cells) (all_of_rest test from cells h)) in
    let some : numbers_in wide part ≡ take count (drop from (numbers_in wide cells)) = sym (ap (take count) (drop-map (number_in wide) from cells) ∙ take-map (number_in wide) count (drop from cells)) in (
      subst (λ cs. AreCells wide cs) (sym a) all,
      ap (numbers_in wide) a ∙ (map-append (number_in wide) cells part ∙ (ap (λ ns. numbers_in wide cells ++ ns) some ∙ ap (λ ns. ns ++ take count (drop from ns)) is)),
    )
