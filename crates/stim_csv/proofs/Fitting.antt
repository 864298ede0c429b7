-- The numbers of a table's vectors fit the pins.
use Rattle.std.specs.Option.{option_or, option_map_or, is_none}
use Rattle.std.specs.List.{AllByRecursion, AllZip, AllPairs}
use Rattle.std.specs.Str.{bytes_eq}
use Rattle.std.proofs.Common.{◌≡◌, ◌≢◌, ℕ, zero, suc, ◌+◌, ◌<◌, ◌^◌, nat_lt, ◌==◌, Bool, true, false, if◌then◌else◌, Option, Some, None, Ok, List, [], ◌∷◌, length, get_or, map, refl, ap, sym, subst, ◌∙◌, arith, unwrap_or}
use Rattle.std.proofs.lemmas.Bool.{and_parts}
use Rattle.std.proofs.lemmas.Bool.Decides.{nat_tests}
use Rattle.plain_lemmas.proofs.Lists.{bytes_eq-itself as bytes_same, bytes_eq-same as same_bytes, differ_by as other_bytes}
use Rattle.rb_base.specs.declared.ports.Pin.{Pin}
use Rattle.stim_csv.specs.Numeral.{cell_value, fits}
use Rattle.stim_csv.specs.PinTable.{Cells, first_problem, width_of, column_of, pin_problem, column_problem, value_problem, cell_problem, cells_problem, row_problem, is_too_many, header_problem, table_problem, number_of, number_under, vector_of, unless, table_under, table_of}
use Rattle.stim_csv.specs.declared.error.StimError.{StimError}
use Rattle.stim_csv.specs.declared.error.StimError.TheVariants.{MissingPin, TooMany, Form, TooWide}
use Rattle.stim_csv.proofs.FirstProblem.{first_cons}
use Rattle.stim_csv.proofs.Positions.{found_at}
use Rattle.stim_csv.proofs.Headers.{get_or-mapped, no_pin}
use Rattle.stim_csv.proofs.Rows.{full_row}

or_none : (a b : Option StimError) → option_or a b ≡ None → (a ≡ None) × (b ≡ None)
or_none None b h = (refl, h)
or_none (Some e) b h = cc h

unless_ok : (o : Option StimError) (vs ws : List (List ℕ)) → unless o vs ≡ Ok ws → (o ≡ None) × (vs ≡ ws)
unless_ok None vs ws h = let e : vs ≡ ws = cc in (refl, e)
unless_ok (Some e) vs ws h = cc h

-- where no element has a problem each is without
none_each : {A : Type 0} (f : ℕ → A → Option StimError) (k : ℕ) (xs : List A) (d : A) → first_problem f k xs ≡ None → (i : ℕ) → i < length xs → f (k + i) (get_or xs i d) ≡ None
none_each f k [] d h i l = absurd (omega arith)
none_each f k (x ∷ xs) d h zero l = let e : k + 0 ≡ k = omega arith in rw e (or_none (f k x) (first_problem f (k + 1) xs) (sym (first_cons f k x xs) ∙ h)).0
none_each f k (x ∷ xs) d h (suc i) l =
    let e : k + 1 + i ≡ k + suc i = omega arith in
    subst (λ n. f n (get_or xs i d) ≡ None) e (none_each f (k + 1) xs d (or_none (f k x) (first_problem f (k + 1) xs) (sym (first_cons f k x xs) ∙ h)).1 i (omega (arith, l)))

-- the width of a pin by its name, which no earlier pin has
width_own : (ps : List Pin) (i : ℕ) → i < length ps → ((j : ℕ) → j < i → (get_or ps j no_pin).name ≢ (get_or ps i no_pin).name) → width_of ps (get_or ps i no_pin).name ≡ (get_or ps i no_pin).width
unfolding width_of
width_own [] i l apart = absurd (omega arith)
width_own (p ∷ ps) zero l apart = rw (bytes_same p.name) refl
width_own (p ∷ ps) (suc i) l apart =
    rw (other_bytes (get_or ps i no_pin).name p.name (λ e. apart 0 (omega arith) (sym e))) (width_own ps i (omega (arith, l)) (λ j low. apart (suc j) (omega (arith, low))))

value_fits : (w row column : ℕ) (o : Option ℕ) → value_problem w row column o ≡ None → unwrap_or o 0 < 2 ^ w
value_fits w row column None h = cc h
value_fits w row column (Some n) h = go (fits w n) refl h
  where
    go : (b : Bool) → fits w n ≡ b → (if b then None else Some (TooWide row column)) ≡ None → n < 2 ^ w
    go true e k = let f : nat_lt n (2 ^ w) ≡ true = (and_parts (nat_lt n (2 ^ 128)) (nat_lt n (2 ^ w)) e).1 in grind (arith, nat_tests, f)
    go false e k = cc k

number_fits : (w row column : ℕ) (cell : List ℕ) → value_problem w row column (cell_value cell) ≡ None → number_of cell < 2 ^ w
unfolding number_of
number_fits w row column cell h = value_fits w row column (cell_value cell) h

-- a pin has a column
pin_found : (header : Cells) (place : ℕ) (pin : Pin) → pin_problem header place pin ≡ None → (c : ℕ) × (column_of header pin.name ≡ Some c)
unfolding pin_problem
pin_found header place pin h = go (column_of header pin.name) refl h
  where
    go : (o : Option ℕ) → column_of header pin.name ≡ o → (if is_none o then Some (MissingPin place) else None) ≡ None → (c : ℕ) × (column_of header pin.name ≡ Some c)
    go None e k = cc k
    go (Some c) e k = (c, e)

-- the cells of a row without a problem
row_cells : (widths : List ℕ) (outputs row : ℕ) (cells : Cells) → row_problem widths outputs row cells ≡ None → cells_problem widths row cells ≡ None
unfolding row_problem
row_cells widths outputs row cells h = go (is_too_many row outputs) h
  where
    go : (b : Bool) → (if b then Some (TooMany row) else cells_problem widths row cells) ≡ None → cells_problem widths row cells ≡ None
    go true k = cc k
    go false k = k

each_cell : (widths : List ℕ) (row : ℕ) (cells : Cells) → cells_problem widths row cells ≡ None → first_problem (cell_problem widths row) 0 cells ≡ None
each_cell widths row cells h = go (length cells == length widths) h
  where
    go : (b : Bool) → (if b then first_problem (cell_problem widths row) 0 cells else Some (Form row)) ≡ None → first_problem (cell_problem widths row) 0 cells ≡ None
    go true k = k
    go false k = cc k

module _ (pins : List Pin) (apart : AllPairs (λ p q. p.name ≢ q.name) pins) (header : Cells) (found : first_problem (pin_problem header) 0 pins ≡ None) where
  -- the number of a pin in a row without a problem
  pin_fits : (outputs row : ℕ) (cells : Cells) → row_problem (map (width_of pins) header) outputs row cells ≡ None → (i : ℕ) → i < length pins
      → number_under header cells (get_or pins i no_pin).name < 2 ^ (get_or pins i no_pin).width
  pin_fits outputs row cells h i l =
      let pin = get_or pins i no_pin in
      let sound = row_cells (map (width_of pins) header) outputs row cells h in
      let has = pin_found header (0 + i) pin (none_each (pin_problem header) 0 pins no_pin found i l) in
      let column = has.0 in
      let (n, at, low, passes) = found_at (λ name. bytes_eq name pin.name) 0 header column [] has.1 in
      let place : n ≡ column = omega (arith, at) in
      let named : get_or header column [] ≡ pin.name = subst (λ k. get_or header k [] ≡ pin.name) place (same_bytes (get_or header n []) pin.name passes) in
      let full : length cells ≡ length header = full_row (map (width_of pins) header) row cells sound ∙ long header in
      let width : get_or (map (width_of pins) header) column 0 ≡ pin.width =
      get_or-mapped (width_of pins) header column [] 0 (omega (arith, low, place)) ∙ (ap (width_of pins) named ∙ width_own pins i l (λ j below. apart j i no_pin below l)) in
      let cell = none_each (cell_problem (map (width_of pins) header) row) 0 cells [] (each_cell (map (width_of pins) header) row cells sound) column (omega (arith, low, place, full)) in
      let same : 0 + column ≡ column = omega arith in
      let fit = subst (λ k. number_of (get_or cells column []) < 2 ^ get_or (map (width_of pins) header) k 0) same (number_fits (get_or (map (width_of pins) header) (0 + column) 0) row (0 + column) (get_or cells column []) cell) in
      let is : number_under header cells pin.name ≡ number_of (get_or cells column []) = ap (λ o. option_map_or (λ c. number_of (get_or cells c [])) o 0) has.1 in
      rw (is, ← width) fit
    where
      long : (h : Cells) → length (map (width_of pins) h) ≡ length h
      long [] = refl
      long (x ∷ xs) = ap suc (long xs)

  zip_each : (ps : List Pin) (f : Pin → ℕ) → ((i : ℕ) → i < length ps → f (get_or ps i no_pin) < 2 ^ (get_or ps i no_pin).width) → AllZip (λ p x. x < 2 ^ p.width) ps (map f ps)
  zip_each [] f h = tt
  zip_each (p ∷ ps) f h = (h 0 (omega arith), zip_each ps f (λ i l. h (suc i) (omega (arith, l))))

  rows_fit : (outputs k : ℕ) (rows : List Cells) → first_problem (row_problem (map (width_of pins) header) outputs) k rows ≡ None
      → AllByRecursion (λ v. AllZip (λ p x. x < 2 ^ p.width) pins v) (map (vector_of pins header) rows)
  rows_fit outputs k [] h = tt
  rows_fit outputs k (r ∷ rs) h =
      let both = or_none (row_problem (map (width_of pins) header) outputs k r) _ (sym (first_cons (row_problem (map (width_of pins) header) outputs) k r rs) ∙ h) in
      (zip_each pins (λ p. number_under header r p.name) (pin_fits outputs k r both.0), rows_fit outputs (k + 1) rs both.1)

under_fits : (pins : List Pin) → AllPairs (λ p q. p.name ≢ q.name) pins → (outputs : ℕ) (header : Cells) (rows : List Cells) (vectors : List (List ℕ))
    → table_under pins outputs header rows ≡ Ok vectors → AllByRecursion (λ v. AllZip (λ p x. x < 2 ^ p.width) pins v) vectors
under_fits pins apart outputs header rows vectors h =
    let made = unless_ok (table_problem pins outputs header rows) (map (vector_of pins header) rows) vectors h in
    let parts = or_none (header_problem pins header) (first_problem (row_problem (map (width_of pins) header) outputs) 0 rows) made.0 in
    let found = (or_none (first_problem (column_problem pins header) 0 header) (first_problem (pin_problem header) 0 pins) parts.0).1 in
    subst (λ vs. AllByRecursion (λ v. AllZip (λ p x. x < 2 ^ p.width) pins v) vs) made.1 (rows_fit pins apart header found outputs 0 rows parts.1)

pub vectors_fit : (pins : List Pin) → AllPairs (λ p q. p.name ≢ q.name) pins → (outputs : ℕ) (records : List Cells) (vectors : List (List ℕ))
    → table_of pins outputs records ≡ Ok vectors → AllByRecursion (λ v. AllZip (λ p x. x < 2 ^ p.width) pins v) vectors
vectors_fit pins apart outputs [] vectors h = under_fits pins apart outputs [] [] vectors h
vectors_fit pins apart outputs (header ∷ rows) vectors h = under_fits pins apart outputs header rows vectors h
