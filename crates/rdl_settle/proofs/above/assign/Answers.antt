use Rattle.std.proofs.Common.{◌∙◌, ap, subst, sym}
use Rattle.std.specs.Option.{option_copied}
use Rattle.rdl_values.specs.Chained.{chained}
use Rattle.rdl_values.specs.Elaborated.{around_body}
use Rattle.rdl_values.specs.Instances.{body}
use Rattle.rdl_failures.specs.Shown.{IsAlike}
use Rattle.rdl_dynamic.specs.Written.{AreWritten}
use Rattle.rdl_open_bodies.proofs.Staying.{open_alike}
use Rattle.rdl_settle.proofs.Assigning.{no_layers, own_is, written_found}
use Rattle.rdl_settle.proofs.above.assign.Goals as goal

pub returns : goal.returns
returns c = λ e n held rows contents known has at spot.
    let t = c.args.tree.now.bodies in
    let x = c.in-Some.body in
    let own = own_is t c.args.spot.now.body x (body n) spot.own (sym c.body.ensures ∙ c.in-Some.is) in
    let shown = subst (λ ts. IsAlike (chained ts x.numbers.now) (around_body n)) (sym c.tables.ensures) (open_alike t x (body n) own) in
    let listed = written_found t held c.args.layers.now c.args.spot.now.body c.in-Some-find.found.now (body n) known (sym c.find.ensures ∙ ap option_copied c.in-Some-find.is) spot.own in
    let written = subst (λ ws. AreWritten ws (body n).items) (sym c.dynamics.ensures) listed in
    record {
      noted = c.in_ok-judge_dynamics.ensures.noted e n rows contents at written shown;
      pushed = c.in_ok-judge_dynamics.ensures.pushed e n rows contents at written shown;
    }

pub returns-in_default-find : goal.returns-in_default-find
returns-in_default-find c = λ e n held rows contents known has at spot. absurd (no_layers c.args.layers.now c.args.spot.now.body has (sym c.find.ensures ∙ ap option_copied c.in_default-find.is))
