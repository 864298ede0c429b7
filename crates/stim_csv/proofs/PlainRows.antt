-- Rows of plain cells, cell by cell.
use Rattle.std.proofs.Common.{◌≡◌, ℕ, zero, suc, ◌+◌, ◌-◌, ◌<◌, ◌≤◌, true, false, ◌==◌, Option, Some, None, List, [], ◌∷◌, ◌++◌, length, get_or, map, refl, ap, sym, ◌∙◌, length-append, arith}
use Rattle.std.specs.List.{AllByRecursion}
use Rattle.std.specs.Option.{option_or}
use Rattle.std.proofs.lemmas.Bool.Decides.{nat_tests}
use Rattle.std.proofs.lemmas.List.{map-append}
use Rattle.csv.specs.Machine.{Read, next_record}
use Rattle.csv.specs.Reading.{default_config}
use Rattle.csv.specs.declared.parser.State.TheVariants.{StartRecord}
use Rattle.stim_csv.specs.Numeral.{cell_value, fits}
use Rattle.stim_csv.specs.PinTable.{Cells, first_problem, cell_problem, number_of}
use Rattle.stim_csv.specs.declared.error.StimError.{StimError}
use Rattle.stim_csv.specs.Plain.{is_plain, IsCellBefore, IsRow}
use Rattle.stim_csv.proofs.FirstProblem.{first_cons, none_first, none_past}
use Rattle.stim_csv.proofs.Lines.{begins, begins_next, field_read, record_read}

-- what the machine comes to behind these fields, where so many are left
abbrev pub so_far : ℕ → Cells → List ℕ → Option Read
so_far zero cells rest = Some (cells, StartRecord, rest)
so_far (suc left) cells rest = next_record default_config (begins cells) cells [] rest

-- the cells of so many columns were read
pub record RowSoFar (widths : List ℕ) (column : ℕ) (text rest : List ℕ) (numbers : List ℕ) : Type 0 where
  pub cells : Cells
  pub count : length cells ≡ column
  pub sound : (row : ℕ) → first_problem (cell_problem widths row) 0 cells ≡ None
  pub numbers_are : numbers ≡ map number_of cells
  pub taken : next_record default_config StartRecord [] [] text ≡ so_far (length widths - column) cells rest

-- one more element without a problem
none_more : {A : Type 0} (f : ℕ → A → Option StimError) (k : ℕ) (xs : List A) (x : A) → first_problem f k xs ≡ None → f (k + length xs) x ≡ None → first_problem f k (xs ++ x ∷ []) ≡ None
none_more f k [] x h e =
    let at : k + 0 ≡ k = omega arith in
    none_first f k x [] (ap (λ n. f n x) (sym at) ∙ e) ∙ none_past f (k + 1)
none_more f k (y ∷ ys) x h e = go (f k y) refl (sym (first_cons f k y ys) ∙ h) (none_more f (k + 1) ys x)
  where
    at : k + suc (length ys) ≡ k + 1 + length ys
    at = omega arith

    go : (o : Option StimError) → f k y ≡ o → option_or (f k y) (first_problem f (k + 1) ys) ≡ None
        → (first_problem f (k + 1) ys ≡ None → f (k + 1 + length ys) x ≡ None → first_problem f (k + 1) (ys ++ x ∷ []) ≡ None) → first_problem f k (y ∷ ys ++ x ∷ []) ≡ None
    go None i j ih = none_first f k y (ys ++ x ∷ []) i ∙ ih (rw i at j) (ap (λ n. f n x) (sym at) ∙ e)
    go (Some p) i j ih = absurd (let no : Some p ≡ None = rw i at j in cc)

pub no_cells : (widths : List ℕ) (text numbers : List ℕ) → (length widths == 0) ≡ false → numbers ≡ [] → RowSoFar widths 0 text text numbers
no_cells widths text numbers some empty = record {
  cells = [];
  count = refl;
  sound = λ row. none_past (cell_problem widths row) 0;
  numbers_are = empty;
  taken = start (length widths) some;
}
  where
    start : (n : ℕ) → (n == 0) ≡ false → next_record default_config StartRecord [] [] text ≡ so_far (n - 0) [] text
    start zero h = cc h
    start (suc n) h = let less : suc n - 0 ≡ suc n = omega arith in rw less refl

number_is : (cell : List ℕ) (n : ℕ) → cell_value cell ≡ Some n → number_of cell ≡ n
unfolding number_of
number_is cell n value = rw value refl

fitting : (widths : List ℕ) (row column width n : ℕ) (cell : List ℕ) → width ≡ get_or widths column 0 → cell_value cell ≡ Some n → fits width n ≡ true → cell_problem widths row column cell ≡ None
fitting widths row column width n cell is value fit = rw (← is, value, fit) refl

empty_value : (n : ℕ) → cell_value [] ≡ Some n → {A : Type 0} → A
unfolding cell_value
empty_value n h = cc h

-- the machine behind one more cell
next : (left : ℕ) (cells : Cells) (cell rest : List ℕ) (separator n : ℕ) → cell_value cell ≡ Some n → AllByRecursion (λ c. is_plain c ≡ true) cell
    → (1 ≤ left → separator ≡ 44) → (left ≡ 0 → separator ≡ 10) → so_far (suc left) cells (cell ++ separator ∷ rest) ≡ so_far left (cells ++ cell ∷ []) rest
next left cells [] rest separator n value plain comma line = empty_value n value
next zero cells (c ∷ xs) rest separator n value plain comma line = rw (line refl) (record_read c xs rest cells plain)
next (suc left) cells (c ∷ xs) rest separator n value plain comma line =
    let begun = begins_next cells (c ∷ xs) in
    let is : separator ≡ 44 = comma (omega arith) in
    rw (is, begun) (field_read c xs rest cells plain)

pub one_more : (widths : List ℕ) (column : ℕ) (text rest rest' numbers numbers' : List ℕ) (separator width n : ℕ) → RowSoFar widths column text rest numbers → column < length widths
    → width ≡ get_or widths column 0 → (column + 1 < length widths → separator ≡ 44) → (length widths ≤ column + 1 → separator ≡ 10) → IsCellBefore separator width rest rest' n
    → numbers' ≡ numbers ++ n ∷ [] → RowSoFar widths (column + 1) text rest' numbers'
one_more widths column text rest rest' numbers numbers' separator width n so l is comma line cell pushed =
    let left : length widths - column ≡ suc (length widths - (column + 1)) = omega (arith, l) in
    let place : column ≡ 0 + length so.cells = omega (arith, so.count) in
    record {
      cells = so.cells ++ cell.cell ∷ [];
      count = length-append so.cells (cell.cell ∷ []) ∙ ap (λ k. k + 1) so.count;
      sound = λ row. none_more (cell_problem widths row) 0 so.cells cell.cell (so.sound row)
          (fitting widths row (0 + length so.cells) width n cell.cell (is ∙ ap (λ k. get_or widths k 0) place) cell.value cell.fitting);
      numbers_are = pushed ∙ (ap (λ ns. ns ++ n ∷ []) so.numbers_are ∙ (ap (λ m. map number_of so.cells ++ m ∷ []) (sym (number_is cell.cell n cell.value)) ∙ sym (map-append number_of so.cells (cell.cell ∷ []))));
      taken = so.taken ∙ (ap (λ k. so_far k so.cells rest) left ∙ (ap (λ r. so_far (suc (length widths - (column + 1))) so.cells r) cell.text_is
          ∙ next (length widths - (column + 1)) so.cells cell.cell rest' separator n cell.value cell.plain (λ h. comma (omega (arith, h, l))) (λ h. line (omega (arith, h, l)))));
    }

pub whole_row : (widths : List ℕ) (column : ℕ) (text rest numbers : List ℕ) → RowSoFar widths column text rest numbers → column ≡ length widths → IsRow widths text rest numbers
whole_row widths column text rest numbers so all =
    let none : length widths - column ≡ 0 = omega (arith, all) in
    let full : (length so.cells == length widths) ≡ true = equal (length so.cells) (length widths) (so.count ∙ all) in
    record {
      cells = so.cells;
      taken = so.taken ∙ ap (λ k. so_far k so.cells rest) none;
      sound = λ row. rw full (so.sound row);
      numbers_are = so.numbers_are;
    }
  where
    equal : (a b : ℕ) → a ≡ b → (a == b) ≡ true
    equal a b h = grind (arith, nat_tests)
