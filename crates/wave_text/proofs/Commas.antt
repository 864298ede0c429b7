-- Cells with commas between, as a loop puts them.
use Rattle.std.specs.List.{flat_map}
use Rattle.std.specs.Prelude.{slice_get}
use Rattle.std.proofs.Common.{◌≡◌, ℕ, zero, suc, ◌+◌, ◌<◌, ◌≤◌, Some, List, [], ◌∷◌, ◌++◌, codes, length, map, take, drop, get_or, refl, ap, sym, ◌∙◌, arith, append_assoc, append-nil, add-one}
use Rattle.std.specs.Option.{option_map}
use Rattle.std.proofs.lemmas.Grind.{flat_map-append}
use Rattle.std.proofs.lemmas.List.{take_more, take-append-drop}
use Rattle.std.proofs.lemmas.Option.{slice_get-map}
use Rattle.plain_lemmas.proofs.Lists.{get-at}
use Rattle.rb_base.specs.declared.ports.Pin.{Pin}
use Rattle.report_text.specs.Printed.{joined, line, cell, printed_run}
use Rattle.wave_text.specs.Pieces.{comma}

-- cells from the one of a number on
abbrev pub from : ℕ → List (List ℕ) → List ℕ
from at [] = []
from at (c ∷ cs) = (comma at ++ c) ++ from (suc at) cs

behind : (at : ℕ) (cs : List (List ℕ)) → flat_map (λ d. codes "," ++ d) cs ≡ from (suc at) cs
behind at [] = refl
behind at (c ∷ cs) = ap (λ l. (codes "," ++ c) ++ l) (behind (suc at) cs)

pub all_cells : (cs : List (List ℕ)) → from 0 cs ≡ joined cs
all_cells [] = refl
all_cells (c ∷ cs) = ap (λ l. c ++ l) (sym (behind 0 cs))

next : (cs : List (List ℕ)) (at : ℕ) (c : List ℕ) → slice_get cs at ≡ Some c → drop at cs ≡ c ∷ drop (suc at) cs
next [] at c e = cc
next (d ∷ cs) zero c e = let same : d ≡ c = cc in ap (λ z. z ∷ cs) same
next (d ∷ cs) (suc at) c e = next cs at c e

-- the cells so far, with those that are left, are all
abbrev pub IsFront : List (List ℕ) → ℕ → List ℕ → Type 0
IsFront cs at text = text ++ from at (drop at cs) ≡ joined cs

left_with : (cs : List (List ℕ)) (at : ℕ) (c text : List ℕ) → slice_get cs at ≡ Some c → IsFront cs at text → text ++ ((comma at ++ c) ++ from (suc at) (drop (suc at) cs)) ≡ joined cs
left_with cs at c text e h = ap (λ ds. text ++ from at ds) (sym (next cs at c e)) ∙ h

-- what is left behind a cell
abbrev pub rest : List (List ℕ) → ℕ → List ℕ
rest cs at = from (suc at) (drop (suc at) cs)

pub with_rest : (cs : List (List ℕ)) (at : ℕ) (c text : List ℕ) → slice_get cs at ≡ Some c → IsFront cs at text → text ++ ((comma at ++ c) ++ rest cs at) ≡ joined cs
with_rest cs at c text e h = left_with cs at c text e h

pub one_more : (cs : List (List ℕ)) (at : ℕ) (c text : List ℕ) → slice_get cs at ≡ Some c → IsFront cs at text → IsFront cs (at + 1) (text ++ (comma at ++ c))
one_more cs at c text e h =
    ap (λ n. (text ++ (comma at ++ c)) ++ from n (drop n cs)) (add-one at)
    ∙ (append_assoc text (comma at ++ c) (rest cs at) ∙ left_with cs at c text e h)

none_left : (cs : List (List ℕ)) (at : ℕ) → length cs ≤ at → drop at cs ≡ []
none_left [] zero l = refl
none_left [] (suc at) l = refl
none_left (c ∷ cs) zero l = absurd (omega (arith, l))
none_left (c ∷ cs) (suc at) l = none_left cs at (omega (arith, l))

pub whole : (cs : List (List ℕ)) (at : ℕ) (text : List ℕ) → length cs ≤ at → IsFront cs at text → text ≡ joined cs
whole cs at text l h = sym (append-nil text) ∙ (ap (λ ds. text ++ from at ds) (sym (none_left cs at l)) ∙ h)

pub at_front : (cs : List (List ℕ)) → IsFront cs 0 []
at_front cs = all_cells cs

-- the cell of an item that a loop reads
pub item : {X : Type 0} (f : X → List ℕ) (xs : List X) (at : ℕ) (d x : X) → at < length xs → x ≡ get_or xs at d → slice_get (map f xs) at ≡ Some (f x)
item f xs at d x l e = slice_get-map f xs at ∙ ap (option_map f) (get-at xs at d l ∙ ap Some (sym e))

-- Rows.

abbrev pub row_text : List ℕ → List ℕ
row_text row = line (map cell row)

-- one row more
pub row_more : (ps : List Pin) (rows : List (List ℕ)) (at : ℕ) → at < length rows → printed_run ps (take at rows) ++ row_text (get_or rows at []) ≡ printed_run ps (take (at + 1) rows)
row_more ps rows at l =
    let head = line (map (λ p. p.name) ps) in
    let row = get_or rows at [] in
    let all : flat_map row_text (take at rows ++ (row ∷ [])) ≡ flat_map row_text (take at rows) ++ row_text row =
    flat_map-append row_text (take at rows) (row ∷ []) ∙ ap (λ z. flat_map row_text (take at rows) ++ z) (append-nil (row_text row)) in
    append_assoc head (flat_map row_text (take at rows)) (row_text row)
    ∙ (ap (λ z. head ++ z) (sym all) ∙ ap (λ z. head ++ flat_map row_text z) (sym (take_more rows at [] l)))

-- what is left behind a row
abbrev pub rows_left : List (List ℕ) → ℕ → List ℕ
rows_left rows at = flat_map row_text (drop (at + 1) rows)

pub row_with_rest : (ps : List Pin) (rows : List (List ℕ)) (at : ℕ) → at < length rows → printed_run ps (take at rows) ++ (row_text (get_or rows at []) ++ rows_left rows at) ≡ printed_run ps rows
row_with_rest ps rows at l =
    let head = line (map (λ p. p.name) ps) in
    sym (append_assoc (printed_run ps (take at rows)) (row_text (get_or rows at [])) (rows_left rows at))
    ∙ (ap (λ z. z ++ rows_left rows at) (row_more ps rows at l)
    ∙ (append_assoc head (flat_map row_text (take (at + 1) rows)) (rows_left rows at)
    ∙ ap (λ z. head ++ z) (sym (flat_map-append row_text (take (at + 1) rows) (drop (at + 1) rows)) ∙ ap (flat_map row_text) (take-append-drop (at + 1) rows))))
