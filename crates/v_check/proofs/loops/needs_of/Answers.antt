use Rattle.std.proofs.Common.{ap, ◌∙◌}
use Rattle.plain_lemmas.proofs.Lists.{take-all}
use Rattle.v_design.specs.Expr.{nets_of}
use Rattle.v_design.specs.Seen.{expr_seen}
use Rattle.v_check.specs.Drivers.{driver_of}
use Rattle.v_check.specs.Loops.{numbers_of}
use Rattle.v_check.proofs.Looping.{number-pushed, number-skipped, numbers-map}
use Rattle.v_check.proofs.loops.needs_of.Goals as goal
use Rattle.v_check.proofs.loops.needs_of.Goals.{in-Some+in_ok-push, in_default}

pub loop-net-preserved : goal.loop-net-preserved
loop-net-preserved c =
    let driver = driver_of c.args.drivers.now in
    let reads = c.args.reads.now in
    elim c.match-find.branch [
      | in-Some+in_ok-push w ↦
          ap (λ v. v.items) w.needs-is ∙ (w.in_ok-push.ensures.items
          ∙ number-pushed driver reads c.loop-net.net-index _ c.loop-net.needs.items w.in-Some.number c.loop-net-test.true c.loop-net.invariant w.in-Some.ensures)
      | in_default w ↦
          ap (λ v. v.items) w.needs-is ∙ number-skipped driver reads c.loop-net.net-index _ c.loop-net.needs.items c.loop-net-test.true c.loop-net.invariant w.in_default.ensures
    ]

pub returns : goal.returns
returns c = λ number is.
    let driver = driver_of c.args.drivers.now in
    let whole = c.loop-net.invariant ∙ ap (numbers_of driver) (take-all c.args.reads.now c.loop-net.net-index c.loop-net-test.false) in
    rw c.if-stmt.false (whole ∙ (ap (numbers_of driver) is ∙ numbers-map driver number (nets_of (expr_seen c.args.stmt.now.expr))))
