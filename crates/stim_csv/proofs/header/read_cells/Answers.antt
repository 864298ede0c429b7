use Rattle.std.proofs.Common.{◌≡◌, ℕ, ◌+◌, ◌<◌, true, ◌==◌, Option, Some, None, List, [], ◌∷◌, ◌++◌, length, take, map, get_or, refl, ap, sym, ◌∙◌, append_assoc, arith}
use Rattle.std.proofs.lemmas.Result.{err_from_is_err_and}
use Rattle.std.proofs.lemmas.List.{map_more}
use Rattle.std.proofs.lemmas.Bool.Decides.{nat_tests}
use Rattle.csv.specs.Records.{fields_of}
use Rattle.stim_csv.specs.Numeral.{cell_value}
use Rattle.stim_csv.specs.PinTable.{Cells, first_problem, cell_problem, cells_problem, number_of, value_problem}
use Rattle.stim_csv.specs.declared.error.StimError.{StimError}
use Rattle.stim_csv.proofs.FirstProblem.{problem_after, problem_here, problem_past}
use Rattle.stim_csv.proofs.header.read_cells.Goals as goal

equal_test : (a b : ℕ) → a ≡ b → (a == b) ≡ true
equal_test a b h = grind (arith, nat_tests)

-- the problem of a row with a cell in each column is that of its cells
cells_next : (widths : List ℕ) (row : ℕ) (cells : Cells) (o : Option StimError) → length cells ≡ length widths → first_problem (cell_problem widths row) 0 cells ≡ o → cells_problem widths row cells ≡ o
cells_next widths row cells o same found = rw (equal_test (length cells) (length widths) same) found

-- a value's problem is the cell's
of_cell : (widths : List ℕ) (row column : ℕ) (cell cell' : List ℕ) (o : Option StimError) → cell' ≡ cell → value_problem (get_or widths column 0) row column (cell_value cell') ≡ o
    → cell_problem widths row column cell ≡ o
of_cell widths row column cell cell' o is found = ap (λ t. value_problem (get_or widths column 0) row column (cell_value t)) (sym is) ∙ found

number_is : (cell cell' : List ℕ) (n : ℕ) → cell' ≡ cell → cell_value cell' ≡ Some n → number_of cell ≡ n
unfolding number_of
number_is cell cell' n is value = rw (← is, value) refl

-- the numbers after one more cell
grown : (cells : Cells) (i n : ℕ) (old numbers numbers' : List ℕ) → i < length cells → number_of (get_or cells i []) ≡ n → numbers ≡ old ++ map number_of (take i cells) → numbers' ≡ numbers ++ (n ∷ [])
    → numbers' ≡ old ++ map number_of (take (i + 1) cells)
grown cells i n old numbers numbers' l is was pushed =
    let more : map number_of (take (i + 1) cells) ≡ map number_of (take i cells) ++ (n ∷ []) = map_more number_of cells i [] l ∙ ap (λ m. map number_of (take i cells) ++ (m ∷ [])) is in
    pushed ∙ (ap (λ ns. ns ++ (n ∷ [])) was ∙ (append_assoc old (map number_of (take i cells)) (n ∷ []) ∙ ap (λ ns. old ++ ns) (sym more)))

pub returns-in_err-number-clause-problem : goal.returns-in_err-number-clause-problem
returns-in_err-number-clause-problem c =
    let p = err_from_is_err_and c.from_residual.result c.from_residual.ensures.1 in
    let cells = fields_of c.args.cells.now in
    rw (p.1, p.2) (λ other. cells_next c.args.widths.now c.args.row cells _ (sym c.len.ensures ∙ c.if-len-widths.false)
    (c.loop-column.invariant.problem
    ∙ problem_here (cell_problem c.args.widths.now c.args.row) cells c.loop-column.column [] _ (omega arith) (of_cell c.args.widths.now c.args.row c.loop-column.column _ _ _ c.cell_at.ensures c.in_err-number.ensures.problem)))

pub loop-column-preserved : goal.loop-column-preserved
loop-column-preserved c =
    let cells = fields_of c.args.cells.now in
    record {
      problem = c.loop-column.invariant.problem
          ∙ problem_after (cell_problem c.args.widths.now c.args.row) cells c.loop-column.column [] (omega arith) (of_cell c.args.widths.now c.args.row c.loop-column.column _ _ _ c.cell_at.ensures c.in_ok-number.ensures.sound);
      numbers = grown cells c.loop-column.column c.in_ok-number.number _ _ _ (omega arith) (number_is _ _ _ c.cell_at.ensures c.in_ok-number.ensures.number) c.loop-column.invariant.numbers c.in_ok-push.ensures;
    }

pub returns-clause-sound : goal.returns-clause-sound
returns-clause-sound c =
    let cells = fields_of c.args.cells.now in
    cells_next c.args.widths.now c.args.row cells None (sym c.len.ensures ∙ c.if-len-widths.false)
    (c.loop-column.invariant.problem ∙ problem_past (cell_problem c.args.widths.now c.args.row) cells c.loop-column.column (omega arith))
