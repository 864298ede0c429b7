use Rattle.std.proofs.Common.{subst, sym}
use Rattle.std.specs.List.{AllByRecursion}
use Rattle.rdl_tree.specs.declared.expr.Path.{out-Path}
use Rattle.rdl_values.specs.Views.{steps_of}
use Rattle.rdl_assignments.proofs.SteadyEntries.{all_more, all_taken}
use Rattle.rdl_assignments.proofs.SteadySets.{IsSteadyStep, all_indices, values_alike}
use Rattle.rdl_assignments.proofs.Steps.{steps_of_code}
use Rattle.rdl_assignments.proofs.steady.has_steady_indices.Goals as goal

pub loop-step-preserved : goal.loop-step-preserved
loop-step-preserved c = λ v shown. all_more (IsSteadyStep c.args.text.now.same_enums v) (out-Path c.args.path.now).steps.now c.loop-step.step-index _ c.loop-step-test.true (c.loop-step.invariant v shown) (c.are_steady.ensures c.if-not-are_steady.false v shown)

pub returns : goal.returns
returns c = λ q v shown u w a b.
    let same = c.args.text.now.same_enums in
    let all = all_taken (IsSteadyStep same v) (out-Path c.args.path.now).steps.now c.loop-step.step-index c.loop-step-test.false (c.loop-step.invariant v shown) in
    values_alike same v _ (all_indices same v (steps_of c.args.path.now) (subst (AllByRecursion (IsSteadyStep same v)) (sym (steps_of_code c.args.path.now)) all)) u w a b
