use Rattle.std.proofs.Common.{◌≡◌, ◌<◌, ℕ, ◌==◌, false, None, ◌++◌, length, map, drop, append-nil, refl, ap, sym, subst, ◌∙◌, arith}
use Rattle.std.proofs.lemmas.Bool.Decides.{nat_tests}
use Rattle.std.proofs.lemmas.List.{with_items_is}
use Rattle.stim_csv.specs.PinTable.{row_problem}
use Rattle.stim_csv.specs.Columns.{numbers_in, picked}
use Rattle.stim_csv.specs.Vectors.{cut}
use Rattle.stim_csv.specs.Plain.{HasRow, rows_at}
use Rattle.stim_csv.proofs.PlainTables.{row_taken, rows_end}
use Rattle.stim_csv.proofs.LikeRows.{has_row}
use Rattle.stim_csv.proofs.RowCells.{row_of}
use Rattle.stim_csv.proofs.Rows.{not_too_many, full_row, row_next, rows_done, vectors-after, whole-after, cut_none, empty_length, below_most}
use Rattle.stim_csv.proofs.stimulus.read_plain_rows.Goals as goal

some_columns : (n : ℕ) → 0 < n → (n == 0) ≡ false
some_columns n h = grind (arith, nat_tests)

pub loop-at-init : goal.loop-at-init
loop-at-init c = record {
  problem = refl;
  vectors = cut_none c.args.columns.now (length c.args.widths.now) c.new-numbers.result (map (numbers_in c.args.columns.now) (rows_at c.args.text.now c.args.start));
  whole = empty_length c.new-numbers.result (length c.args.widths.now) c.new-numbers.ensures;
  inside = c.requires.within;
  within = omega arith;
  long = omega (arith, c.in_ok-lengths.lengths.ok.0, c.in_ok-lengths.ensures.len);
  passed = c.requires.within;
  last = λ h. absurd (h refl);
}

pub loop-at-preserved : goal.loop-at-preserved
loop-at-preserved c =
    let l = c.loop-at in
    let widths = c.args.widths.now in
    let a = rw c.in-Some.is at c.in_ok-found.ensures.cells in
    let some = rw c.in-Some.is at c.in_ok-found.ensures.some in
    let r = row_of widths a.measured a.numbers (drop l.at c.args.text.now) (drop c.in-Some.end c.args.text.now) (some_columns (length widths) some) a.cells in
    let taken = row_taken widths c.args.text.now l.at c.in-Some.end a.numbers r in
    let full = full_row widths l.row r.cells (r.sound l.row) in
    let long : length c.row_at.new.lengths ≡ l.lengths.len = omega (arith, ap length c.deref_mut.ensures.value, l.lengths.ok.0, c.in_ok-found.ensures.lengths) in
    let is = with_items_is l.lengths c.row_at.new.lengths long in
    record {
      problem = l.invariant.problem
          ∙ row_next (row_problem widths c.args.outputs) l.row _ _ r.cells taken (not_too_many widths c.args.outputs l.row r.cells None (sym c.is_past_the_end.ensures ∙ c.if-is_past_the_end.false) (r.sound l.row));
      vectors = vectors-after c.args.columns.now (length widths) _ _ _ r.cells l.numbers _ a.numbers l.row l.invariant.vectors taken l.invariant.whole r.numbers_are full c.requires.columns a.added;
      whole = whole-after l.numbers _ a.numbers r.cells l.row (length widths) l.invariant.whole r.numbers_are full a.added;
      inside = rw c.in-Some.is at c.in_ok-found.ensures.within;
      within = below_most l.row c.args.outputs l.invariant.within (sym c.is_past_the_end.ensures ∙ c.if-is_past_the_end.false);
      long = omega (arith, ap length is, long, l.lengths.ok.0, l.invariant.long);
      passed = l.invariant.inside;
      last = λ _. subst (λ ls. HasRow widths (drop l.at c.args.text.now) (drop c.in-Some.end c.args.text.now) ls c.row_at.new.numbers) (sym is)
          (has_row widths (drop l.at c.args.text.now) (drop c.in-Some.end c.args.text.now) c.deref_mut.result.now c.row_at.new.lengths l.numbers c.row_at.new.numbers a);
    }

pub returns-clause-sound : goal.returns-clause-sound
returns-clause-sound c =
    c.loop-at.invariant.problem ∙ rows_done (row_problem c.args.widths.now c.args.outputs) c.loop-at.row _ (rows_end c.args.text.now c.loop-at.at c.loop-at-test.false)

pub returns-clause-vectors : goal.returns-clause-vectors
returns-clause-vectors c =
    let l = c.loop-at in
    let columns = c.args.columns.now in
    let whole = map (picked columns) (cut (length c.args.widths.now) l.row l.numbers) in
    c.in_ok-vectors.ensures.rows ∙ sym (l.invariant.vectors ∙ (ap (λ rows. whole ++ map (numbers_in columns) rows) (rows_end c.args.text.now l.at c.loop-at-test.false) ∙ append-nil whole))
