use Rattle.std.proofs.Common.{◌||◌, not, is_some, ap, sym, ◌∙◌, arith}
use Rattle.v_design.specs.WellFormed.{Given, same_kind}
use Rattle.v_check.specs.Drivers.{IsUndriven, driver_at, driver_of}
use Rattle.v_check.specs.Nets.{nets_seen, numbers}
use Rattle.v_check.proofs.Driving.{net-at-place, net-within, or-first, or-second}
use Rattle.v_check.proofs.Finding.{finds_next, finds_all, number-at, some-test}
use Rattle.v_check.proofs.Tables.{own-number}
use Rattle.v_check.proofs.drivers.undriven.Goals as goal
use Rattle.v_check.proofs.drivers.undriven.Goals.{then-is, else-is}

pub loop-index-preserved : goal.loop-index-preserved
loop-index-preserved c = λ once.
    let drivers = c.args.drivers.now in
    let nets = c.args.nets.now in
    let i = c.loop-index.index in
    finds_next (IsUndriven (nets_seen nets) (driver_at nets drivers)) (numbers c.args.places.now) c.loop-index.found c.note-found.result (not c.if-is.driven) _ i
    c.note-found.ensures (number-at c.args.places.now i _ (omega arith))
    (some-test (nets_seen nets) i _ (λ n. same_kind n.kind Given || is_some (driver_at nets drivers n.name)) (not c.if-is.driven) (net-at-place nets i _ c.loop-index-test.true)
    (ap not (elim c.if-is.branch [
      | then-is w ↦ or-first c.if-is.driven c.is.result _ _ w.driven-is w.if-is.true c.is.ensures
      | else-is w ↦ or-second c.if-is.driven w.is_some-driven.result c.is.result _ _ w.driven-is w.if-is.false c.is.ensures
          (w.is_some-driven.ensures ∙ (ap is_some w.find.ensures ∙ ap (λ k. is_some (driver_of drivers k)) (sym (own-number nets i _ once c.loop-index-test.true))))
    ])))
    (c.loop-index.invariant once)

pub returns : goal.returns
returns c = λ once.
    finds_all (IsUndriven (nets_seen c.args.nets.now) (driver_at c.args.nets.now c.args.drivers.now)) (numbers c.args.places.now) c.loop-index.found c.loop-index.index
    (λ i h. let l = net-within c.args.nets.now i h.0 h.1 in omega (arith, l)) (c.loop-index.invariant once)
