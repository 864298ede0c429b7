use Rattle.std.proofs.Common.{◌∙◌, ◌∷◌, ◌++◌, ap, subst, sym}
use Rattle.rdl_values.specs.Bodies.{around}
use Rattle.rdl_values.specs.Chained.{chained}
use Rattle.rdl_failures.specs.Noted.{with_all}
use Rattle.rdl_failures.specs.Shown.{IsAlike}
use Rattle.rdl_failures.proofs.Sets.{with_all-append}
use Rattle.rdl_layers.specs.Assignments.{defaults}
use Rattle.rdl_layers.specs.Phase4.{of_enums}
use Rattle.rdl_layers.specs.Judged.{all_failures, anywhere, failures_of}
use Rattle.rdl_dynamic.specs.Written.{AreWritten}
use Rattle.rdl_open_bodies.proofs.Staying.{open_alike}
use Rattle.rdl_open_settings.specs.Layered.{AreLocals, of_kind}
use Rattle.rdl_open_settings.proofs.layers.layers_of.Goals as goal

pub returns-clause-noted : goal.returns-clause-noted
returns-clause-noted c = λ b h.
    let x = c.args.body.now in
    let shown = subst (λ ts. IsAlike (chained ts x.numbers.now) (b.names ∷ around b.outer)) (sym c.tables.ensures) (open_alike c.args.bodies.now x b h) in
    let own = all_failures (failures_of anywhere) (defaults b) in
    let before = of_kind x.kind b ++ own in
    c.in_ok-enums_of.ensures b h ∙ ap (with_all (of_enums b)) (c.in_ok-defaults.ensures.noted b h.items_are shown ∙ ap (with_all own) (c.in_ok-locals.ensures.noted b h.items_are h.kind_is shown) ∙ sym (with_all-append (of_kind x.kind b) own c.args.failures.now))
    ∙ sym (with_all-append before (of_enums b) c.args.failures.now) ∙ ap (λ k. with_all (of_kind k b ++ own ++ of_enums b) c.args.failures.now) (sym h.kind_is)

pub returns-clause-given : goal.returns-clause-given
returns-clause-given c = λ b h.
    let x = c.args.body.now in
    let shown = subst (λ ts. IsAlike (chained ts x.numbers.now) (b.names ∷ around b.outer)) (sym c.tables.ensures) (open_alike c.args.bodies.now x b h) in
    record {
      locals_are = subst (λ k. AreLocals k c.in_ok-locals.locals.items b) (sym h.kind_is) (c.in_ok-locals.ensures.given b h.items_are h.kind_is shown);
      defaults_are = c.in_ok-defaults.ensures.given b h.items_are shown;
      dynamics_are = subst (λ ws. AreWritten ws b.items) (sym (ap (λ v. v.items) c.in_ok-dynamics.ensures.ok)) (subst (AreWritten c.in_ok-written.written.items) (sym h.items_are) c.in_ok-written.ensures);
    }
