use Rattle.std.proofs.Common.{◌≡◌, ℕ, Option, List, length, map, refl, ap, sym, ◌∙◌, arith}
use Rattle.std.proofs.lemmas.Result.{err_from_is_err_and}
use Rattle.csv.specs.Records.{fields_of}
use Rattle.stim_csv.specs.PinTable.{Cells, row_problem, cells_problem, number_of}
use Rattle.stim_csv.specs.Columns.{numbers_in}
use Rattle.stim_csv.specs.Records.{records_left}
use Rattle.stim_csv.specs.declared.error.StimError.{StimError}
use Rattle.stim_csv.proofs.Rows.{too_many, not_too_many, full_row, row_here, row_next, rows_done, vectors-after, whole-after, cut_none, empty_length, below_most}
use Rattle.stim_csv.proofs.stimulus.read_rows.Goals as goal

-- the problem of cells under equal widths
widths_are : (widths widths' : List ℕ) (row : ℕ) (cells : Cells) (o : Option StimError) → widths' ≡ widths → cells_problem widths' row cells ≡ o → cells_problem widths row cells ≡ o
widths_are widths widths' row cells o is found = ap (λ w. cells_problem w row cells) (sym is) ∙ found

pub loop-numbers-init : goal.loop-numbers-init
loop-numbers-init c = record {
  problem = refl;
  vectors = cut_none c.args.header.now.columns.items (length c.args.header.now.widths.items) c.new-numbers.result (map (numbers_in c.args.header.now.columns.items) (records_left c.args.reader.now));
  whole = empty_length c.new-numbers.result (length c.args.header.now.widths.items) c.new-numbers.ensures;
  reads = c.requires.reads;
  within = omega arith;
}

pub returns-then-is_past_the_end-clause-problem : goal.returns-then-is_past_the_end-clause-problem
returns-then-is_past_the_end-clause-problem c = λ other.
    let taken = rw c.if-branch.true at c.in_ok-next_record.ensures.taken in
    let f = row_problem c.args.header.now.widths.items c.args.outputs in
    c.loop-numbers.invariant.problem
    ∙ row_here f c.loop-numbers.row _ _ _ _ taken (too_many c.args.header.now.widths.items c.args.outputs c.loop-numbers.row _ (sym c.is_past_the_end.ensures ∙ c.if-is_past_the_end.true))

pub returns-in_err-read_cells-clause-problem : goal.returns-in_err-read_cells-clause-problem
returns-in_err-read_cells-clause-problem c =
    let p = err_from_is_err_and c.from_residual-in_err-read_cells.result c.from_residual-in_err-read_cells.ensures.1 in
    let taken = rw c.if-branch.true at c.in_ok-next_record.ensures.taken in
    rw (p.1, p.2) (λ other. c.loop-numbers.invariant.problem
    ∙ row_here (row_problem c.args.header.now.widths.items c.args.outputs) c.loop-numbers.row _ _ _ _ taken
    (not_too_many c.args.header.now.widths.items c.args.outputs c.loop-numbers.row _ _ (sym c.is_past_the_end.ensures ∙ c.if-is_past_the_end.false)
    (widths_are c.args.header.now.widths.items _ c.loop-numbers.row _ _ c.deref.ensures.value (c.in_err-read_cells.ensures.problem other))))

pub loop-numbers-preserved : goal.loop-numbers-preserved
loop-numbers-preserved c =
    let l = c.loop-numbers in
    let taken = rw c.if-branch.true at c.in_ok-next_record.ensures.taken in
    let widths = c.args.header.now.widths.items in
    let cells = fields_of c.next_record.new.cells in
    let sound = widths_are widths _ l.row cells _ c.deref.ensures.value c.in_ok-read_cells.ensures.sound in
    let full = full_row widths l.row cells sound in
    record {
      problem = l.invariant.problem
          ∙ row_next (row_problem widths c.args.outputs) l.row _ _ cells taken (not_too_many widths c.args.outputs l.row cells _ (sym c.is_past_the_end.ensures ∙ c.if-is_past_the_end.false) sound);
      vectors = vectors-after c.args.header.now.columns.items (length widths) _ _ _ cells l.numbers _ (map number_of cells) l.row l.invariant.vectors taken l.invariant.whole refl full c.requires.columns c.in_ok-read_cells.ensures.numbers;
      whole = whole-after l.numbers _ (map number_of cells) cells l.row (length widths) l.invariant.whole refl full c.in_ok-read_cells.ensures.numbers;
      reads = c.in_ok-next_record.ensures.reads c.if-branch.true;
      within = below_most l.row c.args.outputs l.invariant.within (sym c.is_past_the_end.ensures ∙ c.if-is_past_the_end.false);
    }

pub returns-clause-sound : goal.returns-clause-sound
returns-clause-sound c =
    let taken = rw c.if-branch.false at c.in_ok-next_record.ensures.taken in
    c.loop-numbers.invariant.problem ∙ rows_done (row_problem c.args.header.now.widths.items c.args.outputs) c.loop-numbers.row _ taken.0
