use Rattle.std.specs.Prelude.{◌≢◌}
use Rattle.std.proofs.Common.{◌+◌, [], ◌∷◌, length, drop, refl, arith, length-drop}
use Rattle.std.proofs.lemmas.Result.{err_from_is_err_and, IfOk-weaker, IfErr-weaker}
use Rattle.vcd_syntax.specs.declared.error.VcdError.TheVariants as error
use Rattle.vcd_syntax.specs.Reading.{Fails, IsTable}
use Rattle.vcd_reader.specs.Fronts.{word_of}
use Rattle.vcd_reader.proofs.Existing.{coloured, words_exist}
use Rattle.vcd_reader.proofs.Stepping.{begun}
use Rattle.vcd_reader.proofs.reading.judged.Goals as goal

pub words-init : goal.words-init
words-init c = record {
  inside = omega arith;
  said = begun c.args.bytes.now c.new-said.result c.new-said.ensures.state c.new-said.ensures.last c.new-said.ensures.place c.new-said.ensures.variables c.new-said.ensures.rows;
}

pub step-requires : goal.step-requires
step-requires c =
    let text = c.args.bytes.now in
    let w = c.in-Some.word in
    let b = c.in-Some.ensures.some in
    let at = w.place.0 + length w.text.now in
    let rest = words_exist (length text) (drop at text) (omega (arith, length-drop at text)) in
    (text, rest.0, c.words.invariant.said (word_of w ∷ rest.0) (b.spelled rest.0 rest.1))

pub returns-in_err-step-clause-problem : goal.returns-in_err-step-clause-problem
returns-in_err-step-clause-problem c =
    let text = c.args.bytes.now in
    let w = c.in-Some.word in
    let b = c.in-Some.ensures.some in
    let at = w.place.0 + length w.text.now in
    let rest = words_exist (length text) (drop at text) (omega (arith, length-drop at text)) in
    let p = err_from_is_err_and c.from_residual.result c.from_residual.ensures.1 in
    rw (p.1, p.2) (λ n. c.in_err-step.ensures.fault n text rest.0 (c.words.invariant.said (word_of w ∷ rest.0) (b.spelled rest.0 rest.1)))

pub words-preserved : goal.words-preserved
words-preserved c =
    let b = c.in-Some.ensures.some in
    record {
      inside = b.within;
      said = λ left s. c.in_ok-step.ensures.on c.args.bytes.now left (c.words.invariant.said (word_of c.in-Some.word ∷ left) (b.spelled left s));
    }

pub words-smaller : goal.words-smaller
words-smaller c = let b = c.in-Some.ensures.some in omega (arith, b.within, b.further)

pub end-requires : goal.end-requires
end-requires c =
    let text = c.args.bytes.now in
    (text, c.words.invariant.said [] (coloured (drop c.words.at text) [] c.in_default.ensures.none), refl, omega (arith, c.requires))

pub returns-clause-table : goal.returns-clause-table
returns-clause-table c =
    let text = c.args.bytes.now in
    IfOk-weaker c.end.result _ (λ w. IsTable text w.pins w.rows) (λ w f. f text (c.words.invariant.said [] (coloured (drop c.words.at text) [] c.in_default.ensures.none))) c.end.ensures.table

pub returns-clause-problem : goal.returns-clause-problem
returns-clause-problem c =
    let text = c.args.bytes.now in
    IfErr-weaker c.end.result _ (λ e. e ≢ error.NoMemory → Fails text e) (λ e f n. f n text (c.words.invariant.said [] (coloured (drop c.words.at text) [] c.in_default.ensures.none)) refl) c.end.ensures.problem
