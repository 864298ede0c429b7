use Rattle.std.specs.List.{AllZip}
use Rattle.std.proofs.Common.{◌≡◌, ◌+◌, true, length, get_or, refl, ap, sym, subst, ◌∙◌, arith}
use Rattle.std.proofs.lemmas.Bool.{OnTrue_at}
use Rattle.std.proofs.lemmas.List.{length-map}
use Rattle.cyc_sim.specs.Arranged.{IsArrangement, StandsAt}
use Rattle.sim_lanes.specs.Narrow.{AreBelow}
use Rattle.cyc_sim.specs.Operations.{are_within, values_in}
use Rattle.cyc_sim.proofs.Arranging.{IsMade}
use Rattle.cyc_sim.proofs.NarrowPrograms.{narrows_as}
use Rattle.sim_lanes.proofs.Running.{are_runs_as}
use Rattle.cyc_sim.proofs.narrow_program.NarrowProgram.of.Goals as goal
use Rattle.cyc_sim.proofs.narrow_program.NarrowProgram.of.Goals.{In_ok-registers}

below : (c : In_ok-registers) → AreBelow c.in_ok-limit.limit c.in_ok-operations.operations.items
below c = subst (AreBelow c.in_ok-limit.limit) c.deref-3.ensures.value (OnTrue_at c.if-not-are_below.false c.are_below.ensures)

first_is : (c : In_ok-registers) → c.in_ok-arrangement.arrangement.first ≡ c.args.program.now.inputs + length c.args.program.now.registers.items
first_is c = omega (arith, c.in_ok-arrangement.ensures.first, c.len.ensures, c.args.program.now.registers.ok.0)

pub invariant_of-result : goal.invariant_of-result
invariant_of-result c =
    let places = c.in_ok-arrangement.arrangement.places.items in
    let first = first_is c in
    let many = ap length c.in_ok-registers.ensures.same ∙ (length-map c.deref-8.result.now (λ q. get_or places q 0) ∙ ap length c.deref-8.ensures.value) in
    record {
      front = omega (arith, c.in_ok-limit.ensures, first, many);
      sized = omega (arith, c.in_ok-total.ensures, c.len-2.ensures, c.in_ok-operations.operations.ok.0);
      below = below c;
      outputs_within = c.in_ok-outputs.ensures.below;
      registers_within = c.in_ok-registers.ensures.below;
    }

pub returns : goal.returns
returns d =
    let c = (goal.at.returns d).In_ok-registers in
    let p = c.args.program.now in
    let a = c.in_ok-arrangement.arrangement in
    let operations = c.in_ok-operations.operations.items in
    let first = first_is c in
    let made : IsMade a p.operations.items operations = record {
      arranged = subst (IsArrangement a) c.deref.ensures.value c.in_ok-arrangement.ensures.each;
      stand = subst (λ os. AllZip (StandsAt a os) a.order.items operations) c.deref-2.ensures.value c.in_ok-operations.ensures;
      below = subst (λ n. AreBelow n operations) c.in_ok-limit.ensures (below c);
      within = subst (λ n. are_within n p.operations.items ≡ true) (sym first) p.within;
    } in
    narrows_as p _ a first made refl refl (c.in_ok-outputs.ensures.same ∙ ap (values_in a.places.items) c.deref-7.ensures.value) (c.in_ok-registers.ensures.same ∙ ap (values_in a.places.items) c.deref-8.ensures.value) (are_runs_as _ _ _ _ (sym c.deref-5.ensures.value) (sym c.deref-6.ensures.value) (OnTrue_at c.if-not-are_runs.false c.are_runs.ensures))
