use Rattle.std.proofs.Common.{◌∙◌, ◌+◌, ◌∷◌, [], None, Some, drop, refl, sym, subst}
use Rattle.std.proofs.lemmas.List.{at_drop_all}
use Rattle.rdl_layers.specs.Assignments.{is_step}
use Rattle.rdl_targets.specs.Steps.{further}
use Rattle.rdl_targets.specs.Trails.{Finds}
use Rattle.rdl_targets.proofs.Stepping.{further_more}
use Rattle.rdl_targets.proofs.Walking.{finds-nothing, first-path, then-finds}
use Rattle.rdl_targets.proofs.trails.Trails.walk.Goals as goal

pub loop-step-init : goal.loop-step-init
loop-step-init c = λ e node env n rows contents shown h at. (n ∷ [], first-path e node c.args.self.now n h at, refl)

pub returns-in_default : goal.returns-in_default
returns-in_default c = λ e node env n rows contents shown h at.
    let m = c.loop-step.invariant e node env n rows contents shown h at in
    let l = m.1.leads in
    let found = c.in_ok-next.ensures e node env l.0 m.0 rows contents shown m.1.are l.1 l.3 in
    subst (Finds e node c.args.self.now c.step.new.self None) (sym (further_more (is_step env) m.0 c.args.steps.now c.loop-step.step-index _ c.loop-step-test.true) ∙ m.2)
    (finds-nothing e node c.args.self.now c.step.new.self (is_step env) _ (drop (c.loop-step.step-index + 1) c.args.steps.now) (then-finds e node c.args.self.now c.loop-step.self c.step.new.self (Some c.loop-step.path) c.in_ok-next.field-0 None m.0 _ c.in_default.is m.1 found))

pub loop-step-preserved : goal.loop-step-preserved
loop-step-preserved c = λ e node env n rows contents shown h at.
    let m = c.loop-step.invariant e node env n rows contents shown h at in
    let l = m.1.leads in
    let found = c.in_ok-next.ensures e node env l.0 m.0 rows contents shown m.1.are l.1 l.3 in
    (_, then-finds e node c.args.self.now c.loop-step.self c.step.new.self (Some c.loop-step.path) c.in_ok-next.field-0 (Some c.in-Some.next) m.0 _ c.in-Some.is m.1 found, sym (further_more (is_step env) m.0 c.args.steps.now c.loop-step.step-index _ c.loop-step-test.true) ∙ m.2)

pub returns : goal.returns
returns c = λ e node env n rows contents shown h at.
    let m = c.loop-step.invariant e node env n rows contents shown h at in
    subst (Finds e node c.args.self.now c.loop-step.self (Some c.loop-step.path)) (sym (at_drop_all (further (is_step env) m.0) c.args.steps.now c.loop-step.step-index c.loop-step-test.false) ∙ m.2) m.1
