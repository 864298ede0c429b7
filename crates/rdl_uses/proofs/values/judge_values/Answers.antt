use Rattle.std.proofs.Common.{ap, subst, sym}
use Rattle.rdl_values.specs.Faults.{failures}
use Rattle.rdl_values.specs.Parameters.{bad_arguments, bound_of}
use Rattle.rdl_values.specs.Kept.{AreDefaultsOf}
use Rattle.rdl_values.specs.Overlaid.{plain_of}
use Rattle.rdl_uses.proofs.Applying.{args_noted, site-of, values_noted}
use Rattle.rdl_uses.proofs.values.judge_values.Goals as goal

pub returns-clause-noted : goal.returns-clause-noted
returns-clause-noted c = λ u k h.
    let d = c.args.def.now in
    let ps = d.params.now in
    let xs = c.args.args.now in
    let v = c.args.visible.now in
    let ns = c.args.inside.now in
    let kept = (subst (λ e. AreDefaultsOf e ps) (sym c.deref.ensures) c.requires).0 in
    let args = args_noted d xs c.args.place v ns u k h _ _ _ (c.in_ok-arguments.ensures.noted ps kept) in
    let bound = c.in_ok-parameters.ensures.noted u k (ap (λ d. d.params.now) h.def) (site-of d xs c.args.place v ns u k h _ (c.in_ok-arguments.ensures.arguments ps kept)) in
    values_noted (bad_arguments u k) (failures (bound_of u k)) _ _ _ _ _ _ c.is_some.ensures args bound

pub returns-clause-values : goal.returns-clause-values
returns-clause-values c = λ u k h.
    let d = c.args.def.now in
    let ps = d.params.now in
    let kept = (subst (λ e. AreDefaultsOf e ps) (sym c.deref.ensures) c.requires).0 in
    c.in_ok-parameters.ensures.values u k (ap (λ d. d.params.now) h.def) (site-of d c.args.args.now c.args.place c.args.visible.now c.args.inside.now u k h _ (c.in_ok-arguments.ensures.arguments ps kept))
