use Rattle.std.proofs.Common.{◌≡◌, ◌∙◌, ap, sym}
use Rattle.std.specs.Result.{result_err}
use Rattle.rdl_tree.specs.declared.expr.Path.{Path, out-Path}
use Rattle.rdl_values.specs.Uses.{values}
use Rattle.rdl_values.specs.Values.{Around}
use Rattle.rdl_values.specs.Views.{steps_of}
use Rattle.rdl_assignments.proofs.Numbers.{indices_in, step_fails, step_passes, steps_pass}
use Rattle.rdl_assignments.proofs.Steps.{steps_of_code}
use Rattle.rdl_assignments.proofs.indices.first_failure.Goals as goal

as_steps : (around : Around) (p : Path) → result_err (values around (indices_in (out-Path p).steps.now)) ≡ result_err (values around (indices_in (steps_of p)))
as_steps around p = ap (λ ts. result_err (values around (indices_in ts))) (sym (steps_of_code p))

pub returns-in-Some : goal.returns-in-Some
returns-in-Some c = λ around shown. step_fails around (out-Path c.args.path.now).steps.now c.loop-step.step-index _ c.in-Some.fault c.loop-step-test.true (c.loop-step.invariant around shown) (c.in-Some.ensures around shown) ∙ as_steps around c.args.path.now

pub loop-step-preserved : goal.loop-step-preserved
loop-step-preserved c = λ around shown. step_passes around (out-Path c.args.path.now).steps.now c.loop-step.step-index _ c.loop-step-test.true (c.loop-step.invariant around shown) (c.in_default.ensures around shown)

pub returns : goal.returns
returns c = λ around shown. steps_pass around (out-Path c.args.path.now).steps.now c.loop-step.step-index c.loop-step-test.false (c.loop-step.invariant around shown) ∙ as_steps around c.args.path.now
