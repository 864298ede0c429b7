use Rattle.std.proofs.Common.{◌∙◌, sym, ap, subst}
use Rattle.plain_lemmas.proofs.Results.{if_ok-map as if_ok}
use Rattle.rdl_tree.specs.declared.expr.Path.{out-Path}
use Rattle.rdl_values.specs.Instances.{children}
use Rattle.rdl_layers.specs.Assignments.{is_step, led_down}
use Rattle.rdl_assignments.proofs.Steps.{steps_of_code}
use Rattle.rdl_targets.specs.Trails.{Finds}
use Rattle.rdl_targets.proofs.Stepping.{all_led, none_led}
use Rattle.rdl_targets.proofs.trails.Trails.find.Goals as goal

pub returns-then-is_empty : goal.returns-then-is_empty
returns-then-is_empty c = λ e node env n rows contents shown h at.
    record { are = h; keeps = λ x ks is. is; leads = none_led (is_step env) (children n) (out-Path c.args.path.now).steps.now (sym c.is_empty.ensures ∙ c.if-is_empty.true) ∙ ap (led_down children (is_step env) (children n)) (sym (steps_of_code c.args.path.now)) }

pub returns : goal.returns
returns c = if_ok c.walk.result _ _ (λ r found e node env n rows contents shown h at.
    let all = all_led (is_step env) n (out-Path c.args.path.now).steps.now (sym c.is_empty.ensures ∙ c.if-is_empty.false) ∙ ap (led_down children (is_step env) (children n)) (sym (steps_of_code c.args.path.now)) in
    subst (Finds e node c.args.self.now c.walk.new.self r) all (found e node env n rows contents shown h at)) c.walk.ensures
