-- Tables of plain rows under the header of a line.
use Rattle.std.proofs.Common.{◌≡◌, ℕ, suc, ◌+◌, ◌≤◌, true, Some, None, Ok, List, [], ◌∷◌, ◌++◌, length, take, drop, map, refl, ap, sym, ◌∙◌, arith}
use Rattle.std.specs.List.{AllByRecursion}
use Rattle.std.proofs.Math.Seq.{drop-cons}
use Rattle.std.proofs.lemmas.List.{take-append-drop, drop_all, length-take-le}
use Rattle.csv.specs.Machine.{next_record}
use Rattle.csv.specs.Reading.{Reached, default_config}
use Rattle.csv.specs.declared.parser.State.TheVariants.{StartRecord}
use Rattle.rb_base.specs.declared.ports.Pin.{Pin}
use Rattle.stim_csv.specs.PinTable.{Cells, table_of, records_of, first_problem, row_problem}
use Rattle.stim_csv.specs.Columns.{numbers_in}
use Rattle.stim_csv.specs.Records.{records_after}
use Rattle.stim_csv.specs.Plain.{is_of_line, IsLine, IsRow, HeadsLine, rows_at}
use Rattle.stim_csv.specs.declared.header.Header.{Header}
use Rattle.stim_csv.proofs.Lines.{fields_on, line_alone, line_read, unmarked}
use Rattle.stim_csv.proofs.RecordsLeft.{taken_after, none_left}
use Rattle.stim_csv.proofs.Rows.{table_sound}

next_is : (xs ys : List ℕ) (cells : Cells) → next_record default_config StartRecord [] [] xs ≡ Some (cells, StartRecord, ys) → records_after StartRecord (Some xs) ≡ cells ∷ records_after StartRecord (Some ys)
unfolding Reached
next_is xs ys cells h = taken_after StartRecord StartRecord xs ys cells ((cells, StartRecord, ys), h, refl, (refl, refl))

-- the rows from a row on
pub row_taken : (widths text : List ℕ) (at end : ℕ) (numbers : List ℕ) (r : IsRow widths (drop at text) (drop end text) numbers) → rows_at text at ≡ r.cells ∷ rows_at text end
row_taken widths text at end numbers r = next_is (drop at text) (drop end text) r.cells r.taken

no_more : next_record default_config StartRecord [] [] [] ≡ None
unfolding next_record
no_more = refl

pub rows_end : (text : List ℕ) (at : ℕ) → length text ≤ at → rows_at text at ≡ []
rows_end text at h = ap (λ t. records_after StartRecord (Some t)) (drop_all at text h) ∙ none_left StartRecord [] no_more

-- the records of a line, and of a text that begins with it
line_records : (line rest : List ℕ) → 1 ≤ length line → AllByRecursion (λ c. is_of_line c ≡ true) line
    → (records_of line ≡ fields_on [] [] line ∷ records_after StartRecord (Some [])) × (records_of (line ++ 10 ∷ rest) ≡ fields_on [] [] line ∷ records_after StartRecord (Some rest))
line_records [] rest some all = absurd (omega (arith, some))
line_records (c ∷ xs) rest some all = (
  ap (λ t. records_after StartRecord (Some t)) (unmarked c xs all.0) ∙ next_is (c ∷ xs) [] (fields_on [] [] (c ∷ xs)) (line_alone c xs all),
  ap (λ t. records_after StartRecord (Some t)) (unmarked c (xs ++ 10 ∷ rest) all.0) ∙ next_is ((c ∷ xs) ++ 10 ∷ rest) rest (fields_on [] [] (c ∷ xs)) (line_read c xs rest all),
)

split : (text : List ℕ) (end : ℕ) → IsLine text end → text ≡ take end text ++ 10 ∷ drop (end + 1) text
split text end line =
    let next : suc end ≡ end + 1 = omega arith in
    sym (take-append-drop end text) ∙ ap (λ r. take end text ++ r) (drop-cons text end 0 line.within ∙ (λ i. line.ended i ∷ drop (next i) text))

first_of : (a b : Cells) (us vs : List Cells) → a ∷ us ≡ b ∷ vs → a ≡ b
first_of a b us vs h = cc

-- the records of a text are those of its first line and of its rows
pub text_records : (text : List ℕ) (end : ℕ) (pins : List Pin) (header : Header) → IsLine text end → (h : HeadsLine pins (take end text) header) → records_of text ≡ h.names ∷ rows_at text (end + 1)
text_records text end pins header line h =
    let some : 1 ≤ length (take end text) = omega (arith, length-take-le end text (omega (arith, line.within)), line.some) in
    let records = line_records (take end text) (drop (end + 1) text) some line.plain in
    let same : fields_on [] [] (take end text) ≡ h.names = first_of _ _ _ _ (sym records.0 ∙ h.first) in
    ap records_of (split text end line) ∙ (records.1 ∙ ap (λ names. names ∷ rows_at text (end + 1)) same)

pub plain_table : (text : List ℕ) (end : ℕ) (pins : List Pin) (outputs : ℕ) (header : Header) (vectors : List (List ℕ)) → IsLine text end → HeadsLine pins (take end text) header
    → first_problem (row_problem header.widths.items outputs) 0 (rows_at text (end + 1)) ≡ None → vectors ≡ map (numbers_in header.columns.items) (rows_at text (end + 1))
    → table_of pins outputs (records_of text) ≡ Ok vectors
plain_table text end pins outputs header vectors line h sound is =
    ap (table_of pins outputs) (text_records text end pins header line h) ∙ (table_sound pins outputs h.names (rows_at text (end + 1)) header h.header_is h.sound sound ∙ ap Ok (sym is))
