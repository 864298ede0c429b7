use Rattle.std.proofs.Common.{◌≡◌, ℕ, Option, None, List, map, ap, sym, ◌∙◌}
use Rattle.std.proofs.lemmas.Result.{err_from_is_err_and}
use Rattle.rb_base.specs.declared.ports.Pin.{Pin}
use Rattle.csv.specs.Records.{fields_of}
use Rattle.stim_csv.specs.PinTable.{Cells, first_problem, column_problem, header_problem, column_of}
use Rattle.stim_csv.specs.Columns.{unfound_problem}
use Rattle.stim_csv.specs.declared.error.StimError.{StimError}
use Rattle.stim_csv.proofs.Headers.{pins_unfound}
use Rattle.stim_csv.proofs.header.Header.read.Goals as goal

-- a header whose columns have no problem has that of its pins
pins_next : (pins : List Pin) (names : Cells) (columns : List (Option ℕ)) (o : Option StimError) → first_problem (column_problem pins names) 0 names ≡ None
    → columns ≡ map (λ p. column_of names p.name) pins → first_problem unfound_problem 0 columns ≡ o → header_problem pins names ≡ o
pins_next pins names columns o sound is found = rw sound (pins_unfound names 0 pins ∙ (ap (first_problem unfound_problem 0) (sym is) ∙ found))

pub returns-in_err-columns-2-clause-problem : goal.returns-in_err-columns-2-clause-problem
returns-in_err-columns-2-clause-problem c =
    let p = err_from_is_err_and c.from_residual-in_err-columns-2.result c.from_residual-in_err-columns-2.ensures.1 in
    rw (p.1, p.2) (λ other. pins_next c.args.pins.now (fields_of c.args.names.now) c.deref.result.now _ c.in_ok-columns.ensures.sound (c.deref.ensures.value ∙ c.in_ok-columns.ensures.columns) (c.in_err-columns-2.ensures.problem other))

pub returns-clause-sound : goal.returns-clause-sound
returns-clause-sound c = pins_next c.args.pins.now (fields_of c.args.names.now) c.deref.result.now None c.in_ok-columns.ensures.sound (c.deref.ensures.value ∙ c.in_ok-columns.ensures.columns) c.in_ok-columns-2.ensures.sound
