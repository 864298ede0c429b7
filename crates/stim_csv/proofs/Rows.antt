-- How the rows of a table are judged and kept.
use Rattle.std.proofs.Common.{◌≡◌, ℕ, ◌+◌, ◌*◌, ◌<◌, ◌≤◌, ◌||◌, nat_lt, Bool, true, false, if◌then◌else◌, ◌==◌, Option, Some, None, Ok, Err, List, [], ◌∷◌, ◌++◌, length, get_or, map, refl, ap, sym, subst, ◌∙◌, append_assoc, length-append, add-one, arith}
use Rattle.std.specs.List.{AllByRecursion}
use Rattle.std.specs.Str.{bytes_eq}
use Rattle.std.proofs.lemmas.Bool.Decides.{nat_tests}
use Rattle.std.proofs.lemmas.List.{length-map, map-append}
use Rattle.rb_base.specs.declared.ports.Pin.{Pin}
use Rattle.stim_csv.specs.Vectors.{cut}
use Rattle.stim_csv.specs.Columns.{IsHeaderOf, AreColumns, numbers_in, picked}
use Rattle.stim_csv.specs.PinTable.{Cells, first_problem, row_problem, cells_problem, cell_problem, is_too_many, number_of, column_of, width_of, number_under, vector_of, header_problem, table_under}
use Rattle.stim_csv.specs.declared.header.Header.{Header}
use Rattle.stim_csv.specs.declared.error.StimError.{StimError}
use Rattle.stim_csv.specs.declared.error.StimError.TheVariants.{TooMany, Form}
use Rattle.stim_csv.proofs.FirstProblem.{none_first, some_first, none_past}
use Rattle.stim_csv.proofs.Positions.{found_at}
use Rattle.stim_csv.proofs.Headers.{get_or-mapped}
use Rattle.stim_csv.proofs.Cutting.{cut-push, suc_times}

pub too_many : (widths : List ℕ) (outputs row : ℕ) (cells : Cells) → is_too_many row outputs ≡ true → row_problem widths outputs row cells ≡ Some (TooMany row)
unfolding row_problem
too_many widths outputs row cells h = rw h refl

pub not_too_many : (widths : List ℕ) (outputs row : ℕ) (cells : Cells) (o : Option StimError) → is_too_many row outputs ≡ false → cells_problem widths row cells ≡ o → row_problem widths outputs row cells ≡ o
unfolding row_problem
not_too_many widths outputs row cells o h found = rw h found

-- a row without a problem has a cell in each column
pub full_row : (widths : List ℕ) (row : ℕ) (cells : Cells) → cells_problem widths row cells ≡ None → length cells ≡ length widths
full_row widths row cells h = go (length cells == length widths) refl h
  where
    go : (b : Bool) → (length cells == length widths) ≡ b → (if b then first_problem (cell_problem widths row) 0 cells else Some (Form row)) ≡ None → length cells ≡ length widths
    go true e h = grind (arith, nat_tests)
    go false e h = cc h

-- the rows from one on, which has a problem, or has none
pub row_here : (f : ℕ → Cells → Option StimError) (row : ℕ) (left rest : List Cells) (cells : Cells) (e : StimError) → left ≡ cells ∷ rest → f row cells ≡ Some e → first_problem f row left ≡ Some e
row_here f row left rest cells e is h = ap (first_problem f row) is ∙ some_first f row cells rest e h

pub row_next : (f : ℕ → Cells → Option StimError) (row : ℕ) (left rest : List Cells) (cells : Cells) → left ≡ cells ∷ rest → f row cells ≡ None → first_problem f row left ≡ first_problem f (row + 1) rest
row_next f row left rest cells is h = ap (first_problem f row) is ∙ none_first f row cells rest h

pub rows_done : (f : ℕ → Cells → Option StimError) (row : ℕ) (left : List Cells) → left ≡ [] → first_problem f row left ≡ None
rows_done f row left is = ap (first_problem f row) is ∙ none_past f row

-- columns below a number stay below an equal one
pub columns_below : (n m : ℕ) (columns : List ℕ) → n ≡ m → AllByRecursion (λ c. c < n) columns → AllByRecursion (λ c. c < m) columns
columns_below n m columns e h = subst (λ k. AllByRecursion (λ c. c < k) columns) e h

-- numbers picked from those of all cells are those of the cells picked
picked_cells : (cells : Cells) (numbers columns : List ℕ) → numbers ≡ map number_of cells → AllByRecursion (λ c. c < length cells) columns → picked columns numbers ≡ numbers_in columns cells
picked_cells cells numbers [] is low = refl
picked_cells cells numbers (c ∷ cs) is low =
    let here : get_or numbers c 0 ≡ number_of (get_or cells c []) = ap (λ l. get_or l c 0) is ∙ get_or-mapped number_of cells c [] 0 low.0 in
    ap (λ x. x ∷ picked cs numbers) here ∙ ap (λ l. number_of (get_or cells c []) ∷ l) (picked_cells cells numbers cs is low.1)

-- the vectors after one more row
pub vectors-after : (columns : List ℕ) (w : ℕ) (all left rest : List Cells) (cells : Cells) (flat flat' numbers : List ℕ) (row : ℕ)
    → map (numbers_in columns) all ≡ map (picked columns) (cut w row flat) ++ map (numbers_in columns) left → left ≡ cells ∷ rest
    → length flat ≡ row * w → numbers ≡ map number_of cells → length cells ≡ w → AllByRecursion (λ c. c < w) columns → flat' ≡ flat ++ numbers
    → map (numbers_in columns) all ≡ map (picked columns) (cut w (row + 1) flat') ++ map (numbers_in columns) rest
vectors-after columns w all left rest cells flat flat' numbers row was is whole read long low pushed =
    let vector = numbers_in columns cells in
    let before = map (picked columns) (cut w row flat) in
    let full : length numbers ≡ w = ap length read ∙ (length-map cells number_of ∙ long) in
    let one : cut w (row + 1) flat' ≡ cut w row flat ++ (numbers ∷ []) = rw (pushed, add-one row) (cut-push w row flat numbers whole full) in
    let here : picked columns numbers ≡ vector = picked_cells cells numbers columns read (columns_below w (length cells) columns (sym long) low) in
    let more : map (picked columns) (cut w (row + 1) flat') ≡ before ++ (vector ∷ []) = ap (map (picked columns)) one ∙ (map-append (picked columns) (cut w row flat) (numbers ∷ []) ∙ ap (λ v. before ++ (v ∷ [])) here) in
    was ∙ (ap (λ l. before ++ map (numbers_in columns) l) is ∙ (sym (append_assoc before (vector ∷ []) (map (numbers_in columns) rest)) ∙ ap (λ l. l ++ map (numbers_in columns) rest) (sym more)))

pub whole-after : (flat flat' numbers : List ℕ) (cells : Cells) (row w : ℕ) → length flat ≡ row * w → numbers ≡ map number_of cells → length cells ≡ w → flat' ≡ flat ++ numbers → length flat' ≡ (row + 1) * w
whole-after flat flat' numbers cells row w whole read long pushed =
    let full : length numbers ≡ w = ap length read ∙ (length-map cells number_of ∙ long) in
    let both = length-append flat numbers in
    let more = suc_times row w in
    rw (pushed, add-one row) (omega (arith, both, more, whole, full))

-- the columns of a header are its columns
pub are_columns : (pins : List Pin) (names : Cells) (header : Header) → IsHeaderOf pins names header → AreColumns header
are_columns pins names header h = columns_below (length names) (length header.widths.items) header.columns.items (sym (ap length h.widths ∙ length-map names (width_of pins))) (go header.columns.items pins h.columns)
  where
    go : (columns : List ℕ) (ps : List Pin) → map Some columns ≡ map (λ p. column_of names p.name) ps → AllByRecursion (λ c. c < length names) columns
    go [] ps e = tt
    go (c ∷ cs) [] e = cc e
    go (c ∷ cs) (p ∷ ps) e =
        let first : Some c ≡ column_of names p.name = cc in
        let rest : map Some cs ≡ map (λ q. column_of names q.name) ps = cc in
        let (n, at, low, passes) = found_at (λ name. bytes_eq name p.name) 0 names c [] (sym first) in
        (omega (arith, at, low), go cs ps rest)

-- the numbers in the columns of the pins are the vector
vector_is : (pins : List Pin) (names cells : Cells) (columns : List ℕ) → map Some columns ≡ map (λ p. column_of names p.name) pins → numbers_in columns cells ≡ vector_of pins names cells
vector_is [] names cells [] e = refl
vector_is [] names cells (c ∷ cs) e = cc e
vector_is (p ∷ ps) names cells [] e = cc e
vector_is (p ∷ ps) names cells (c ∷ cs) e =
    let first : Some c ≡ column_of names p.name = cc in
    let rest : map Some cs ≡ map (λ q. column_of names q.name) ps = cc in
    let here : number_of (get_or cells c []) ≡ number_under names cells p.name = rw (← first) refl in
    ap (λ x. x ∷ numbers_in cs cells) here ∙ ap (λ l. number_under names cells p.name ∷ l) (vector_is ps names cells cs rest)

vectors_are : (pins : List Pin) (names : Cells) (columns : List ℕ) (rows : List Cells) → map Some columns ≡ map (λ p. column_of names p.name) pins → map (numbers_in columns) rows ≡ map (vector_of pins names) rows
vectors_are pins names columns [] e = refl
vectors_are pins names columns (r ∷ rs) e = ap (λ v. v ∷ map (numbers_in columns) rs) (vector_is pins names r columns e) ∙ ap (λ l. vector_of pins names r ∷ l) (vectors_are pins names columns rs e)

-- the table of rows without a problem, and of rows with one
pub table_sound : (pins : List Pin) (outputs : ℕ) (names : Cells) (rows : List Cells) (header : Header) → IsHeaderOf pins names header → header_problem pins names ≡ None
    → first_problem (row_problem header.widths.items outputs) 0 rows ≡ None → table_under pins outputs names rows ≡ Ok (map (numbers_in header.columns.items) rows)
table_sound pins outputs names rows header h sound rows_sound =
    rw (sound, ← h.widths, rows_sound) (ap Ok (sym (vectors_are pins names header.columns.items rows h.columns)))

pub table_refused : (pins : List Pin) (outputs : ℕ) (names : Cells) (rows : List Cells) (header : Header) (e : StimError) → IsHeaderOf pins names header → header_problem pins names ≡ None
    → first_problem (row_problem header.widths.items outputs) 0 rows ≡ Some e → table_under pins outputs names rows ≡ Err e
table_refused pins outputs names rows header e h sound found = rw (sound, ← h.widths, found) refl

pub header_refused : (pins : List Pin) (outputs : ℕ) (names : Cells) (rows : List Cells) (e : StimError) → header_problem pins names ≡ Some e → table_under pins outputs names rows ≡ Err e
header_refused pins outputs names rows e h = rw h refl

-- no row is kept before the first
pub cut_none : (columns : List ℕ) (w : ℕ) (flat : List ℕ) (rows : List (List ℕ)) → rows ≡ map (picked columns) (cut w 0 flat) ++ rows
unfolding cut
cut_none columns w flat rows = refl

pub empty_length : (xs : List ℕ) (w : ℕ) → xs ≡ [] → length xs ≡ 0 * w
empty_length xs w is = ap length is ∙ omega arith

-- a row that is not one too many is below the most
pub below_most : (row outputs : ℕ) → row ≤ 1000000 → is_too_many row outputs ≡ false → row + 1 ≤ 1000000
below_most row outputs low h = go (row == 1000000) refl h
  where
    go : (b : Bool) → (row == 1000000) ≡ b → (b || nat_lt 16777216 ((row + 1) * outputs)) ≡ false → row + 1 ≤ 1000000
    go true e h = cc h
    go false e h = grind (arith, nat_tests)
