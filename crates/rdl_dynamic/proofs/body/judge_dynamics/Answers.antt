use Rattle.std.proofs.Common.{subst, take}
use Rattle.rdl_values.specs.Instances.{body}
use Rattle.rdl_layers.specs.Assignments.{dynamics}
use Rattle.rdl_layers.specs.Nested.{nested}
use Rattle.rdl_dynamic.specs.Given.{IsGoing}
use Rattle.rdl_dynamic.proofs.Going.{all-of, go-next, none-yet, of-body}
use Rattle.rdl_dynamic.proofs.body.judge_dynamics.Goals as goal

pub loop-written-init : goal.loop-written-init
loop-written-init c = λ e n ds rows contents at shown of. none-yet e c.args.node c.args.rows.now n c.in_ok-known.known c.args.entries.now.items c.args.failures.now ds (c.in_ok-known.ensures e c.args.rows.now (nested n))

pub loop-written-preserved : goal.loop-written-preserved
loop-written-preserved c = λ e n ds rows contents at shown of.
    go-next e c.args.node c.args.rows.now n c.judge_written.new.known c.args.entries.now.items c.judge_written.new.entries.items c.args.failures.now c.judge_written.new.failures c.args.assignments.now ds c.loop-written.written-index _ c.loop-written-test.true of
    (λ before. c.in_ok-judge_written.ensures e n c.args.entries.now.items c.args.failures.now (take c.loop-written.written-index ds) before rows contents at shown (c.loop-written.invariant e n ds rows contents at shown of))

pub returns-clause-noted : goal.returns-clause-noted
returns-clause-noted c = λ e n rows contents at written shown.
    let of = of-body n c.args.assignments.now written in
    (subst (IsGoing e c.args.node c.args.rows.now n c.loop-written.known c.args.entries.now.items c.loop-written.entries.items c.args.failures.now c.loop-written.failures) (all-of n c.args.assignments.now (dynamics (body n)) c.loop-written.written-index c.loop-written-test.false of)
    (c.loop-written.invariant e n (dynamics (body n)) rows contents at shown of)).noted

pub returns-clause-pushed : goal.returns-clause-pushed
returns-clause-pushed c = λ e n rows contents at written shown.
    let of = of-body n c.args.assignments.now written in
    let all = subst (IsGoing e c.args.node c.args.rows.now n c.loop-written.known c.args.entries.now.items c.loop-written.entries.items c.args.failures.now c.loop-written.failures) (all-of n c.args.assignments.now (dynamics (body n)) c.loop-written.written-index c.loop-written-test.false of)
    (c.loop-written.invariant e n (dynamics (body n)) rows contents at shown of) in
    record { same_length = all.same_length; pushed = all.pushed }
