use Rattle.std.proofs.lemmas.Result.{err_from_is_err_and}
use Rattle.vcd_syntax.specs.declared.kind.Kind.TheVariants as kind
use Rattle.vcd_syntax.specs.declared.state.State.TheVariants as state
use Rattle.vcd_reader.specs.Fronts.{word_of}
use Rattle.vcd_reader.proofs.Stepping.{ready, stepped, failed}
use Rattle.vcd_reader.proofs.said.Said.step.Goals as goal

pub scalar-requires-clause-ready : goal.scalar-requires-clause-ready
scalar-requires-clause-ready c =
    let h = c.requires.2 in
    (h.known, ready c.requires.0 c.requires.1 (word_of c.args.word) c.args.self.now kind.Scalar state.Entries h c.in-Some.ensures.leads)

pub returns-in_err-scalar-clause-fault : goal.returns-in_err-scalar-clause-fault
returns-in_err-scalar-clause-fault c =
    let p = err_from_is_err_and c.from_residual.result c.from_residual.ensures.1 in
    rw (p.1, p.2) (λ n text left h. failed text left c.args.word c.args.self.now kind.Scalar state.Entries c.in_err-scalar.field-0.0 c.in-Some.ensures.leads c.in_err-scalar.ensures.fault n h)

pub returns-in-Some-clause-on : goal.returns-in-Some-clause-on
returns-in-Some-clause-on c = λ text left h. stepped text left c.args.word c.args.self.now c.scalar.new.self kind.Scalar state.Entries c.in-Some.ensures.leads c.in_ok-scalar.ensures.on h

pub returns-then-is_number-clause-on : goal.returns-then-is_number-clause-on
returns-then-is_number-clause-on c = λ text left h. stepped text left c.args.word c.args.self.now c.number.new.self kind.Bits state.Taker (c.is_number.ensures.leads c.if-is_number.true) c.number.ensures h

pub taker-requires-clause-ready : goal.taker-requires-clause-ready
taker-requires-clause-ready c =
    let h = c.requires.2 in
    (h.known, ready c.requires.0 c.requires.1 (word_of c.args.word) c.args.self.now kind.Taker state.Entries h c.in-Some-taken.ensures.leads)

pub returns-in_err-taker-clause-fault : goal.returns-in_err-taker-clause-fault
returns-in_err-taker-clause-fault c =
    let p = err_from_is_err_and c.from_residual-in_err-taker.result c.from_residual-in_err-taker.ensures.1 in
    rw (p.1, p.2) (λ n text left h. failed text left c.args.word c.args.self.now kind.Taker state.Entries c.in_err-taker.field-0.0 c.in-Some-taken.ensures.leads c.in_err-taker.ensures.fault n h)

pub returns-in-Some-taken-clause-on : goal.returns-in-Some-taken-clause-on
returns-in-Some-taken-clause-on c = λ text left h. stepped text left c.args.word c.args.self.now c.taker.new.self kind.Taker state.Entries c.in-Some-taken.ensures.leads c.in_ok-taker.ensures.on h
