-- How many vectors a table has.
use Rattle.std.specs.Option.{option_or}
use Rattle.std.proofs.Common.{zero, suc, ◌≡◌, ℕ, ◌+◌, ◌*◌, ◌<◌, ◌≤◌, ◌==◌, ◌||◌, nat_lt, Bool, true, false, if◌then◌else◌, Option, None, Some, Ok, List, [], ◌∷◌, length, map, refl, ap, sym, ◌∙◌, subst, arith}
use Rattle.std.proofs.lemmas.Bool.Decides.{nat_tests}
use Rattle.plain_lemmas.proofs.Bools.{or-left_false}
use Rattle.plain_lemmas.proofs.Lists.{length-map}
use Rattle.rb_base.specs.declared.ports.Pin.{Pin}
use Rattle.stim_csv.specs.PinTable.{Cells, first_problem, row_problem, cells_problem, is_too_many, header_problem, width_of, vector_of, table_problem, unless, table_under, table_of}
use Rattle.stim_csv.specs.declared.error.StimError.{StimError}
use Rattle.stim_csv.specs.declared.error.StimError.TheVariants.{TooMany}

neither : (a b : Option StimError) → option_or a b ≡ None → (a ≡ None) × (b ≡ None)
neither None b h = (refl, h)
neither (Some e) b h = cc h

not_last : (widths : List ℕ) (outputs row : ℕ) (cells : Cells) → row_problem widths outputs row cells ≡ None → (row == 1000000) ≡ false
unfolding row_problem
not_last widths outputs row cells h = or-left_false (row == 1000000) (nat_lt 16777216 ((row + 1) * outputs)) (at (is_too_many row outputs) refl h)
  where
    at : (b : Bool) → is_too_many row outputs ≡ b → (if b then Some (TooMany row) else cells_problem widths row cells) ≡ None → is_too_many row outputs ≡ false
    at true e k = cc k
    at false e k = e

other : (row : ℕ) → row ≤ 1000000 → (row == 1000000) ≡ false → row + 1 ≤ 1000000
other row l e = grind (arith, nat_tests)

rows_few : (widths : List ℕ) (outputs k : ℕ) (rows : List Cells) → k ≤ 1000000 → first_problem (row_problem widths outputs) k rows ≡ None → k + length rows ≤ 1000000
unfolding first_problem
rows_few widths outputs k [] l h = omega arith
rows_few widths outputs k (r ∷ rows) l h =
    let both = neither (row_problem widths outputs k r) (first_problem (row_problem widths outputs) (k + 1) rows) h in
    let rest = rows_few widths outputs (k + 1) rows (other k l (not_last widths outputs k r both.0)) both.1 in omega arith

under_few : (pins : List Pin) (outputs : ℕ) (header : Cells) (rows : List Cells) (vectors : List (List ℕ)) → table_under pins outputs header rows ≡ Ok vectors → length vectors ≤ 1000000
under_few pins outputs header rows vectors h = at (table_problem pins outputs header rows) refl h
  where
    at : (o : Option StimError) → table_problem pins outputs header rows ≡ o → unless o (map (vector_of pins header) rows) ≡ Ok vectors → length vectors ≤ 1000000
    at (Some e) p k = cc k
    at None p k =
        let is : map (vector_of pins header) rows ≡ vectors = cc in
        let few = rows_few (map (width_of pins) header) outputs 0 rows (omega arith) (neither (header_problem pins header) (first_problem (row_problem (map (width_of pins) header) outputs) 0 rows) p).1 in
        omega (arith, few, ap length is, length-map (vector_of pins header) rows)

-- a table has at most 1,000,000 vectors
pub few_vectors : (pins : List Pin) (outputs : ℕ) (records : List Cells) (vectors : List (List ℕ)) → table_of pins outputs records ≡ Ok vectors → length vectors ≤ 1000000
few_vectors pins outputs [] vectors h = under_few pins outputs [] [] vectors h
few_vectors pins outputs (header ∷ rows) vectors h = under_few pins outputs header rows vectors h
