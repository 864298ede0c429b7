use Rattle.std.proofs.Common.{◌≡◌, ℕ, None, Result, Ok, Err, List, [], ◌∷◌, IfOk, OnOk, length, map, ap, sym, ◌∙◌}
use Rattle.csv.specs.Records.{fields_of}
use Rattle.rb_base.specs.declared.ports.Pin.{Pin}
use Rattle.stim_csv.specs.PinTable.{Cells, table_of, records_of, header_problem, first_problem, row_problem, unless}
use Rattle.stim_csv.specs.Columns.{IsHeaderOf, numbers_in}
use Rattle.stim_csv.specs.Vectors.{cut}
use Rattle.stim_csv.specs.declared.header.Header.{Header}
use Rattle.stim_csv.specs.declared.error.StimError.{StimError}
use Rattle.std.specs.Option.{option_or}
use Rattle.stim_csv.proofs.RecordsLeft.{at_start}
use Rattle.stim_csv.proofs.Rows.{are_columns, table_sound}
use Rattle.stim_csv.proofs.stimulus.Stimulus.read_records.Goals as goal

-- the table of rows that are read
whole : (pins : List Pin) (outputs : ℕ) (records : List Cells) (names : Cells) (rows : List Cells) (header : Header) (r : Result (List (List ℕ)) StimError)
    → records ≡ names ∷ rows → IsHeaderOf pins names header → header_problem pins names ≡ None
    → OnOk r (first_problem (row_problem header.widths.items outputs) 0 rows ≡ None) → IfOk r (λ s. s ≡ map (numbers_in header.columns.items) rows)
    → IfOk r (λ s. table_of pins outputs records ≡ Ok s)
whole pins outputs records names rows header (Ok s) is h sound rows_sound vectors =
    ap (table_of pins outputs) is ∙ (table_sound pins outputs names rows header h sound rows_sound ∙ ap Ok (sym vectors))
whole pins outputs records names rows header (Err e) is h sound rows_sound vectors = tt

-- the table of no record
none : (pins : List Pin) (outputs : ℕ) (records : List Cells) (names : Cells) (flat : List ℕ) → records ≡ [] → names ≡ [] → header_problem pins names ≡ None
    → table_of pins outputs records ≡ Ok (cut (length pins) 0 flat)
unfolding cut first_problem
none pins outputs records names flat is empty sound =
    ap (table_of pins outputs) is ∙ ap (λ o. unless (option_or o None) []) (ap (header_problem pins) (sym empty) ∙ sound)

pub read_rows-requires-clause-columns : goal.read_rows-requires-clause-columns
read_rows-requires-clause-columns c = are_columns c.args.pins.now _ c.in_ok-header.header c.in_ok-header.ensures.header

pub returns-then-headed-clause-vectors : goal.returns-then-headed-clause-vectors
returns-then-headed-clause-vectors c =
    let taken = rw c.if-headed.true at c.in_ok-headed.ensures.taken in
    let all = at_start c.from_reader-reader.result c.args.bytes.now c.from_reader-reader.ensures.state c.from_reader-reader.ensures.source in
    whole c.args.pins.now c.args.outputs (records_of c.args.bytes.now) (fields_of c.next_record.new.cells) _ c.in_ok-header.header c.read_rows.result (sym all ∙ taken)
    c.in_ok-header.ensures.header c.in_ok-header.ensures.sound c.read_rows.ensures.sound c.read_rows.ensures.vectors

pub returns-clause-vectors : goal.returns-clause-vectors
returns-clause-vectors c =
    let taken = rw c.if-headed.false at c.in_ok-headed.ensures.taken in
    let all = at_start c.from_reader-reader.result c.args.bytes.now c.from_reader-reader.ensures.state c.from_reader-reader.ensures.source in
    none c.args.pins.now c.args.outputs (records_of c.args.bytes.now) (fields_of c.next_record.new.cells) c.new-else-headed.result (sym all ∙ taken.0) taken.1 c.in_ok-header.ensures.sound
