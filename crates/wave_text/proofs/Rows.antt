-- The lines of rows in turn.
use Rattle.std.specs.List.{flat_map}
use Rattle.std.proofs.Common.{zero, suc, ◌≡◌, ℕ, ◌+◌, ◌<◌, ◌≤◌, Option, None, Some, List, [], ◌∷◌, ◌++◌, length, take, drop, get_or, refl, ap, sym, ◌∙◌, subst, arith, append_assoc, append-nil}
use Rattle.std.proofs.lemmas.Grind.{flat_map-append}
use Rattle.rb_base.specs.declared.ports.Pin.{Pin}
use Rattle.v_design.specs.Expr.{Values}
use Rattle.v_design.specs.Design.{Module}
use Rattle.v_design.specs.Run.{Run}
use Rattle.vcd_syntax.specs.Dump.{line_text, lines_text, vector_lines, vector_text, row_lines}
use Rattle.sim_run.proofs.Runs.{RunsTo}
use Rattle.wave_text.specs.Dumped.{rows_of}

-- the last of these rows, or what stood before them
abbrev pub last_of : Option (List ℕ) → List (List ℕ) → Option (List ℕ)
last_of before [] = before
last_of before (row ∷ rows) = last_of (Some row) rows

last_append : (before : Option (List ℕ)) (rows : List (List ℕ)) (row : List ℕ) → last_of before (rows ++ row ∷ []) ≡ Some row
last_append before [] row = refl
last_append before (r ∷ rows) row = last_append (Some r) rows row

abbrev pub rows_text : ℕ → List Pin → Option (List ℕ) → List (List ℕ) → List ℕ
rows_text at ps before rows = lines_text (row_lines at ps before rows)

pub one_row : (at : ℕ) (ps : List Pin) (before : Option (List ℕ)) (row : List ℕ) (rows : List (List ℕ))
    → rows_text at ps before (row ∷ rows) ≡ vector_text at ps before row ++ rows_text (at + 1) ps (Some row) rows
one_row at ps before row rows = flat_map-append line_text (vector_lines at ps before row) (row_lines (at + 1) ps (Some row) rows)

-- rows, and others behind them
pub rows_append : (at : ℕ) (ps : List Pin) (before : Option (List ℕ)) (rows more : List (List ℕ))
    → rows_text at ps before (rows ++ more) ≡ rows_text at ps before rows ++ rows_text (at + length rows) ps (last_of before rows) more
rows_append at ps before [] more = ap (λ k. rows_text k ps before more) (let e : at ≡ at + 0 = omega arith in e)
rows_append at ps before (row ∷ rows) more =
    one_row at ps before row (rows ++ more)
    ∙ (ap (λ l. vector_text at ps before row ++ l) (rows_append (at + 1) ps (Some row) rows more)
    ∙ (ap (λ k. vector_text at ps before row ++ (rows_text (at + 1) ps (Some row) rows ++ rows_text k ps (last_of (Some row) rows) more)) (let e : at + 1 + length rows ≡ at + suc (length rows) = omega arith in e)
    ∙ (sym (append_assoc (vector_text at ps before row) (rows_text (at + 1) ps (Some row) rows) (rows_text (at + suc (length rows)) ps (last_of (Some row) rows) more))
    ∙ ap (λ l. l ++ rows_text (at + suc (length rows)) ps (last_of (Some row) rows) more) (sym (one_row at ps before row rows)))))

module _ (m : Module) where
  -- a run, and one from the contents that it reached
  pub run_on : (c d : Values) (xs ys os ps : List (List ℕ)) → RunsTo m c xs os d → Run m d ys ps → Run m c (xs ++ ys) (os ++ ps)
  run_on c d [] ys [] ps r q = subst (λ z. Run m z ys ps) (sym r) q
  run_on c d (x ∷ xs) ys (o ∷ os) ps r q = (r.0, r.1, run_on r.0 d xs ys os ps r.2 q)
  run_on c d [] ys (o ∷ os) ps r q = absurd r
  run_on c d (x ∷ xs) ys [] ps r q = absurd r

  pub rows_on : (c d : Values) (xs ys os ps : List (List ℕ)) → RunsTo m c xs os d → rows_of (xs ++ ys) (os ++ ps) ≡ rows_of xs os ++ rows_of ys ps
  rows_on c d [] ys [] ps r = refl
  rows_on c d (x ∷ xs) ys (o ∷ os) ps r = ap (λ l. (x ++ o) ∷ l) (rows_on r.0 d xs ys os ps r.2)
  rows_on c d [] ys (o ∷ os) ps r = absurd r
  rows_on c d (x ∷ xs) ys [] ps r = absurd r

  pub as_many : (c d : Values) (xs os : List (List ℕ)) → RunsTo m c xs os d → length (rows_of xs os) ≡ length xs
  as_many c d [] [] r = refl
  as_many c d (x ∷ xs) (o ∷ os) r = ap suc (as_many r.0 d xs os r.2)
  as_many c d [] (o ∷ os) r = absurd r
  as_many c d (x ∷ xs) [] r = absurd r

-- the rows so far and one more
pub last_row : (rows : List (List ℕ)) (row : List ℕ) → last_of None (rows ++ row ∷ []) ≡ Some row
last_row rows row = last_append None rows row
