use Rattle.std.proofs.Common.{◌≡◌, ℕ, ◌+◌, ◌<◌, Option, Some, None, Result, Ok, Err, IfOk, IfSome, List, length, map, take, sym, subst}
use Rattle.std.specs.List.{AllByRecursion}
use Rattle.rb_base.specs.declared.ports.Pin.{Pin}
use Rattle.stim_csv.specs.PinTable.{table_of, records_of, first_problem, row_problem}
use Rattle.stim_csv.specs.Columns.{numbers_in}
use Rattle.stim_csv.specs.Plain.{IsLine, HeadsLine, rows_at}
use Rattle.stim_csv.specs.declared.header.Header.{Header}
use Rattle.stim_csv.specs.declared.error.StimError.{StimError}
use Rattle.stim_csv.proofs.Rows.{are_columns}
use Rattle.stim_csv.proofs.PlainTables.{plain_table}
use Rattle.stim_csv.proofs.stimulus.read_plain.Goals as goal

behind : (widths widths' columns columns' : List ℕ) → widths' ≡ widths → columns' ≡ columns → AllByRecursion (λ c. c < length widths) columns → AllByRecursion (λ c. c < length widths') columns'
behind widths widths' columns columns' p q h =
    subst (λ cs. AllByRecursion (λ c. c < length widths') cs) (sym q) (subst (λ ws. AllByRecursion (λ c. c < length ws) columns) (sym p) h)

table : (text : List ℕ) (end : ℕ) (pins : List Pin) (outputs : ℕ) (header : Header) (widths columns : List ℕ) (r : Result (Option (List (List ℕ))) StimError)
    → IsLine text end → HeadsLine pins (take end text) header → widths ≡ header.widths.items → columns ≡ header.columns.items
    → IfOk r (λ found. IfSome found (λ s. first_problem (row_problem widths outputs) 0 (rows_at text (end + 1)) ≡ None))
    → IfOk r (λ found. IfSome found (λ s. s ≡ map (numbers_in columns) (rows_at text (end + 1))))
    → IfOk r (λ found. IfSome found (λ s. table_of pins outputs (records_of text) ≡ Ok s))
table text end pins outputs header widths columns (Ok (Some s)) line heads p q sound vectors =
    plain_table text end pins outputs header s line heads (subst (λ ws. first_problem (row_problem ws outputs) 0 (rows_at text (end + 1)) ≡ None) p sound)
    (subst (λ cs. s ≡ map (numbers_in cs) (rows_at text (end + 1))) q vectors)
table text end pins outputs header widths columns (Ok None) line heads p q sound vectors = tt
table text end pins outputs header widths columns (Err e) line heads p q sound vectors = tt

pub read_plain_rows-requires-clause-columns : goal.read_plain_rows-requires-clause-columns
read_plain_rows-requires-clause-columns c =
    let heads = rw c.in-Some-found.is at c.in_ok-found.ensures.header in
    behind c.in-Some-found.header.widths.items _ c.in-Some-found.header.columns.items _ c.deref.ensures.value c.deref-2.ensures.value (are_columns c.args.pins.now heads.names c.in-Some-found.header heads.header_is)

pub returns-clause-vectors : goal.returns-clause-vectors
returns-clause-vectors c =
    let heads = rw c.in-Some-found.is at c.in_ok-found.ensures.header in
    table c.args.bytes.now c.in-Some.end c.args.pins.now c.args.outputs c.in-Some-found.header _ _ c.read_plain_rows.result c.in-Some.ensures heads c.deref.ensures.value c.deref-2.ensures.value
    c.read_plain_rows.ensures.sound c.read_plain_rows.ensures.vectors
