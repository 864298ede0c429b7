use Rattle.std.proofs.Common.{◌∙◌, ap, sym}
use Rattle.rdl_values.specs.Bodies.{around}
use Rattle.rdl_values.specs.Faults.{failures}
use Rattle.rdl_layers.specs.Meanings.{from_expr}
use Rattle.rdl_assignments.proofs.SteadySets.{ref_alike, value_alike}
use Rattle.rdl_assignments.proofs.steady.is_steady_value.Goals as goal

pub returns-then-has_steady_indices : goal.returns-then-has_steady_indices
returns-then-has_steady_indices c = λ q v shown place u w a b.
    ap (λ e. failures (from_expr c.args.form u place e)) c.in-Ref.is
    ∙ ref_alike c.args.form u w place _ _ (c.has_steady_indices.ensures c.if-has_steady_indices.true v shown (around u) (around w) a b) (c.is_taken_alike.ensures q v shown _ _ c.in-Ref.is place u w a b)
    ∙ ap (λ e. failures (from_expr c.args.form w place e)) (sym c.in-Ref.is)

pub returns-in_default : goal.returns-in_default
returns-in_default c = λ q v shown place u w a b. value_alike c.args.form place c.args.expr.now c.in_default.not-Ref c.args.text.now.same_enums v (c.is_steady.ensures q v shown) u w a b
