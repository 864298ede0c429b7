-- Cells of a row one behind the other, and those that are as in the row before.
use Rattle.std.proofs.Common.{◌≡◌, ℕ, zero, suc, ◌+◌, ◌-◌, ◌<◌, ◌≤◌, ◌==◌, false, List, [], ◌∷◌, ◌++◌, length, get_or, take, drop, refl, ap, sym, subst, ◌∙◌, append-nil, append_assoc, length-append, arith}
use Rattle.std.specs.List.{sum}
use Rattle.std.proofs.lemmas.List.{length-drop, take-append-drop, take-take, take_at, drop-take, drop-drop, drop_more}
use Rattle.std.proofs.lemmas.List.Sums.{sum_by-cons}
use Rattle.stim_csv.specs.Plain.{IsCellBefore, IsCellWith, IsRow, AreCellsOf, separator_before}
use Rattle.stim_csv.proofs.PlainRows.{RowSoFar, no_cells, one_more, whole_row}

-- as many lengths and numbers as widths
pub as_many : (ws ls ns text rest : List ℕ) → AreCellsOf ws ls ns text rest → (length ls ≡ length ws) × (length ns ≡ length ws)
as_many [] [] [] text rest h = (refl, refl)
as_many [] [] (n ∷ ns) text rest h = absurd h
as_many [] (l ∷ ls) ns text rest h = absurd h
as_many (w ∷ ws) [] ns text rest h = absurd h
as_many (w ∷ ws) (l ∷ ls) [] text rest h = absurd h
as_many (w ∷ ws) (l ∷ ls) (n ∷ ns) text rest h = let more = as_many ws ls ns (drop l text) rest h.2 in (ap suc more.0, ap suc more.1)

-- a cell and the byte behind it are the bytes between two places
pub between : (text : List ℕ) (at end separator width n : ℕ) → at < end → end ≤ length text → IsCellBefore separator width (drop at text) (drop end text) n
    → (end - at ≤ length (drop at text)) × IsCellWith separator width n (take (end - at) (drop at text))
between text at end separator width n past within cell =
    let long = length-drop at text in
    let rest = length-drop end text in
    let parts : drop at text ≡ (cell.cell ++ separator ∷ []) ++ drop end text = cell.text_is ∙ sym (append_assoc cell.cell (separator ∷ []) (drop end text)) in
    let whole = ap length parts ∙ length-append (cell.cell ++ separator ∷ []) (drop end text) in
    let size : length (cell.cell ++ separator ∷ []) ≡ end - at = omega (arith, long, rest, whole, past, within) in (
      omega (arith, long, within),
      record {
        cell = cell.cell;
        bytes_are = ap (take (end - at)) parts ∙ take_at (cell.cell ++ separator ∷ []) (drop end text) (end - at) size;
        value = cell.value;
        fitting = cell.fitting;
        plain = cell.plain;
      },
    )

pub before : (separator width n l : ℕ) (text : List ℕ) → IsCellWith separator width n (take l text) → IsCellBefore separator width text (drop l text) n
before separator width n l text cell = record {
  cell = cell.cell;
  text_is = sym (take-append-drop l text) ∙ (ap (λ t. t ++ drop l text) cell.bytes_are ∙ append_assoc cell.cell (separator ∷ []) (drop l text));
  value = cell.value;
  fitting = cell.fitting;
  plain = cell.plain;
}

-- texts that are alike for so many bytes are so behind the first of them
shorter : (l m : ℕ) (x y : List ℕ) → l ≤ m → take m x ≡ take m y → (take l x ≡ take l y) × (take (m - l) (drop l x) ≡ take (m - l) (drop l y))
shorter l m x y le same =
    let both : l + (m - l) ≡ m = omega (arith, le) in (
      sym (take-take l m x le) ∙ (ap (take l) same ∙ take-take l m y le),
      sym (drop-take l (m - l) x) ∙ (ap (λ k. drop l (take k x)) both ∙ (ap (drop l) same ∙ (ap (λ k. drop l (take k y)) (sym both) ∙ drop-take l (m - l) y))),
    )

-- so many cells of the row before stand in this row too
pub record Carried (count : ℕ) (ws ls ns x y rest : List ℕ) : Type 0 where
  pub left : AreCellsOf (drop count ws) (drop count ls) (drop count ns) (drop (sum (take count ls)) x) rest
  pub here : (ls' ns' rest' : List ℕ) → AreCellsOf (drop count ws) ls' ns' (drop (sum (take count ls)) y) rest' → AreCellsOf ws (take count ls ++ ls') (take count ns ++ ns') y rest'

pub carried : (count m : ℕ) (ws ls ns x y rest : List ℕ) → AreCellsOf ws ls ns x rest → count ≤ length ls → sum (take count ls) ≤ m → m ≤ length y → take m x ≡ take m y → Carried count ws ls ns x y rest
carried zero m ws ls ns x y rest h low room within same = record { left = h; here = λ ls' ns' rest' g. g }
carried (suc count) m [] [] [] x y rest h low room within same = absurd (omega (arith, low))
carried (suc count) m [] [] (n ∷ ns) x y rest h low room within same = absurd h
carried (suc count) m [] (l ∷ ls) ns x y rest h low room within same = absurd h
carried (suc count) m (w ∷ ws) [] ns x y rest h low room within same = absurd h
carried (suc count) m (w ∷ ws) (l ∷ ls) [] x y rest h low room within same = absurd h
carried (suc count) m (w ∷ ws) (l ∷ ls) (n ∷ ns) x y rest h low room within same =
    let s = sum (take count ls) in
    let both : sum (take (suc count) (l ∷ ls)) ≡ l + s = sum_by-cons (λ k. k) l (take count ls) in
    let less : l ≤ m = omega (arith, room, both) in
    let parts = shorter l m x y less same in
    let more = carried count (m - l) ws ls ns (drop l x) (drop l y) rest h.2 (omega (arith, low)) (omega (arith, room, both)) (omega (arith, within, length-drop l y)) parts.1 in
    record {
      left = subst (λ t. AreCellsOf (drop count ws) (drop count ls) (drop count ns) t rest) (drop-drop s l x ∙ ap (λ k. drop k x) (sym both)) more.left;
      here = λ ls' ns' rest' g. (
        omega (arith, less, within),
        subst (λ t. IsCellWith (separator_before ws) w n t) parts.0 h.1,
        more.here ls' ns' rest' (subst (λ t. AreCellsOf (drop count ws) ls' ns' t rest') (ap (λ k. drop k y) both ∙ sym (drop-drop s l y)) g),
      );
    }

-- the cells from a column on end a row whose first ones were read
cells_on : (widths ws ls ns : List ℕ) (column : ℕ) (text rest end numbers : List ℕ) → ws ≡ drop column widths → column ≤ length widths → AreCellsOf ws ls ns rest end → RowSoFar widths column text rest numbers
    → RowSoFar widths (length widths) text end (numbers ++ ns)
cells_on widths [] [] [] column text rest end numbers is low h so =
    let all : column ≡ length widths = omega (arith, ap length is ∙ length-drop column widths, low) in
    subst (λ c. RowSoFar widths c text end (numbers ++ [])) all (subst (λ ns. RowSoFar widths column text end ns) (sym (append-nil numbers)) (subst (λ t. RowSoFar widths column text t numbers) h so))
cells_on widths [] [] (n ∷ ns) column text rest end numbers is low h so = absurd h
cells_on widths [] (l ∷ ls) ns column text rest end numbers is low h so = absurd h
cells_on widths (w ∷ ws) [] ns column text rest end numbers is low h so = absurd h
cells_on widths (w ∷ ws) (l ∷ ls) [] column text rest end numbers is low h so = absurd h
cells_on widths (w ∷ ws) (l ∷ ls) (n ∷ ns) column text rest end numbers is low h so =
    let here : suc (length ws) ≡ length widths - column = ap length is ∙ length-drop column widths in
    let inside : column < length widths = omega (arith, here, low) in
    let more = is ∙ drop_more widths column 0 inside in
    let one = one_more widths column text rest (drop l rest) numbers (numbers ++ n ∷ []) (separator_before ws) w n so inside (first w (get_or widths column 0) ws (drop (column + 1) widths) more)
    (λ some. comma ws (omega (arith, here, some))) (λ none. line ws (omega (arith, here, none))) (before (separator_before ws) w n l rest h.1) refl in
    subst (λ ns. RowSoFar widths (length widths) text end ns) (append_assoc numbers (n ∷ []) ns)
    (cells_on widths ws ls ns (column + 1) text (drop l rest) end (numbers ++ n ∷ []) (others w (get_or widths column 0) ws (drop (column + 1) widths) more) (omega (arith, inside)) h.2 one)
  where
    first : (a b : ℕ) (xs ys : List ℕ) → a ∷ xs ≡ b ∷ ys → a ≡ b
    first a b xs ys h = cc

    others : (a b : ℕ) (xs ys : List ℕ) → a ∷ xs ≡ b ∷ ys → xs ≡ ys
    others a b xs ys h = cc

    comma : (xs : List ℕ) → 0 < length xs → separator_before xs ≡ 44
    comma [] some = absurd (omega (arith, some))
    comma (x ∷ xs) some = refl

    line : (xs : List ℕ) → length xs ≡ 0 → separator_before xs ≡ 10
    line [] none = refl
    line (x ∷ xs) none = absurd (omega (arith, none))

-- the cells of all columns are a row
pub row_of : (widths ls ns text end : List ℕ) → (length widths == 0) ≡ false → AreCellsOf widths ls ns text end → IsRow widths text end ns
row_of widths ls ns text end some h =
    whole_row widths (length widths) text end ns (cells_on widths widths ls ns 0 text text end [] refl (omega arith) h (no_cells widths text [] some refl)) refl
