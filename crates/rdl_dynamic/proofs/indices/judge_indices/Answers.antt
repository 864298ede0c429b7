use Rattle.std.proofs.Common.{◌∙◌, sym, subst, flat_map}
use Rattle.std.proofs.lemmas.List.{take_all}
use Rattle.rdl_tree.specs.declared.expr.Path.{out-Path}
use Rattle.rdl_tree.specs.declared.expr.Step.{Step}
use Rattle.rdl_values.specs.Bodies.{around}
use Rattle.rdl_failures.specs.Noted.{IsNoted}
use Rattle.rdl_failures.proofs.Noting.{nothing_noted, step_noted_at}
use Rattle.rdl_assignments.proofs.Steps.{steps_of_code}
use Rattle.rdl_dynamic.specs.Indices.{bad_numbers}
use Rattle.rdl_dynamic.proofs.indices.judge_indices.Goals as goal

pub loop-step-init : goal.loop-step-init
loop-step-init c = λ env shown. nothing_noted c.args.failures.now

pub loop-step-preserved : goal.loop-step-preserved
loop-step-preserved c = λ env shown. step_noted_at (λ (t : Step). bad_numbers env t.index.now) (out-Path c.args.path.now).steps.now c.loop-step.step-index _ c.loop-step-test.true _ _ _ _ _ (c.loop-step.invariant env shown) (c.in_ok-clean.ensures env shown)

pub returns : goal.returns
returns c = λ d same shown.
    let env = around d.assigns.scope in
    let steps = take_all c.loop-step.step-index (out-Path c.args.path.now).steps.now c.loop-step-test.false ∙ sym (steps_of_code c.args.path.now) ∙ sym same in
    subst (λ ts. IsNoted (flat_map (λ (t : Step). bad_numbers env t.index.now) ts) c.loop-step.clean c.args.failures.now c.loop-step.failures) steps (c.loop-step.invariant env shown)
