use Rattle.std.proofs.Common.{◌≡◌, ℕ, ◌+◌, ◌<◌, List, [], ◌∷◌, ◌++◌, length, take, get_or, ap, subst}
use Rattle.std.specs.List.{AllZip}
use Rattle.std.proofs.lemmas.List.{take_more}
use Rattle.cyc_sim.specs.Arranged.{StandsAt}
use Rattle.cyc_sim.specs.declared.arrangement.Arrangement.{Arrangement}
use Rattle.sim_lanes.specs.declared.narrow.NarrowOperation.{NarrowOperation}
use Rattle.cyc_sim.specs.declared.operation.Operation.{Operation}
use Rattle.cyc_sim.proofs.Knowing.{AllZip-pushed}
use Rattle.cyc_sim.proofs.arrangement.Arrangement.operations.Goals as goal

more_operations : (a : Arrangement) (os : List Operation) (i old : ℕ) (all all' : List NarrowOperation) (n : NarrowOperation) → i < length a.order.items → old ≡ get_or a.order.items i 0
    → AllZip (StandsAt a os) (take i a.order.items) all → StandsAt a os old n → all' ≡ all ++ (n ∷ []) → AllZip (StandsAt a os) (take (i + 1) a.order.items) all'
more_operations a os i old all all' n l is h stands pushed = rw (pushed, take_more a.order.items i 0 l, ← is) (AllZip-pushed (StandsAt a os) (take i a.order.items) all old n h stands)

pub loop-old-preserved : goal.loop-old-preserved
loop-old-preserved c =
    let is = c.deref-old-items.ensures.value in
    more_operations c.args.self.now c.args.operations.now c.loop-old.old-index _ c.loop-old.all.items c.push.new.self.items c.in_ok-narrow.narrow (subst (λ xs. c.loop-old.old-index < length xs) is c.loop-old-test.true)
    (ap (λ xs. get_or xs c.loop-old.old-index 0) is) c.loop-old.invariant c.in_ok-narrow.ensures c.in_ok-push.ensures.items
