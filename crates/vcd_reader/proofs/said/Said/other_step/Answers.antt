use Rattle.std.proofs.Common.{◌∙◌, sym}
use Rattle.std.proofs.lemmas.Result.{err_from_is_err_and}
use Rattle.vcd_syntax.proofs.Steps.{no_exit}
use Rattle.vcd_reader.specs.Fronts.{word_of}
use Rattle.vcd_reader.proofs.Stepping.{none_of, ready, stepped, failed}
use Rattle.vcd_reader.proofs.said.Said.other_step.Goals as goal

pub returns-in_default-clause-fault : goal.returns-in_default-clause-fault
returns-in_default-clause-fault c = λ n text left h.
    no_exit text (word_of c.args.word) left c.args.self.now.state h.known c.args.self.now.last.place.0 h.reads (sym c.exit_of.ensures ∙ none_of c.exit_of.result c.in_default.not-Some)

pub take-requires : goal.take-requires
take-requires c =
    let h = c.requires.2 in
    (h.known, ready c.requires.0 c.requires.1 (word_of c.args.word) c.args.self.now c.in-Some.kind c.in-Some.to h (sym c.exit_of.ensures ∙ c.in-Some.is))

pub returns-in_err-take-clause-fault : goal.returns-in_err-take-clause-fault
returns-in_err-take-clause-fault c =
    let p = err_from_is_err_and c.from_residual.result c.from_residual.ensures.1 in
    rw (p.1, p.2) (λ n text left h. failed text left c.args.word c.args.self.now c.in-Some.kind c.in-Some.to c.in_err-take.field-0.0 (sym c.exit_of.ensures ∙ c.in-Some.is) c.in_err-take.ensures.fault n h)

pub returns-clause-on : goal.returns-clause-on
returns-clause-on c = λ text left h. stepped text left c.args.word c.args.self.now c.take.new.self c.in-Some.kind c.in-Some.to (sym c.exit_of.ensures ∙ c.in-Some.is) c.in_ok-take.ensures.on h
