use Rattle.std.proofs.Common.{◌≡◌, ◌∙◌, ◌∷◌, length, slice_get, ap, arith, subst, sym}
use Rattle.plain_lemmas.proofs.Lists.{none-beyond}
use Rattle.rdl_values.specs.Tabled.{listed_in}
use Rattle.rdl_bodies.specs.Sited.{own_names}
use Rattle.rdl_elab.specs.Envs.{AreEnvs, round}
use Rattle.rdl_elab.proofs.Environments.{envs_more}
use Rattle.rdl_elab.proofs.envs.add_envs.Goals as goal

pub bodies-preserved : goal.bodies-preserved
bodies-preserved c =
    let list = c.args.bodies.now.list.items in
    let x = c.in-Some.body in
    let size : length c.bodies.envs.items ≡ c.len.result = omega (arith, c.bodies.envs.ok.0) in
    let outer = c.env_round-outer.ensures ∙ ap (λ es. round es x.numbers.now) c.deref.ensures.value in
    subst (AreEnvs list) (sym c.in_ok-push.ensures.items)
    (envs_more list c.bodies.envs.items x c.in_ok-env.env c.bodies.invariant (ap (slice_get list) size ∙ sym c.body.ensures ∙ c.in-Some.is) (c.in_ok-env.ensures ∙ ap (λ o. own_names x ∷ listed_in o) outer))

pub returns-clause-all : goal.returns-clause-all
returns-clause-all c =
    let size : length c.bodies.envs.items ≡ c.len.result = omega (arith, c.bodies.envs.ok.0) in
    let past = none-beyond c.args.bodies.now.list.items c.len.result (sym c.body.ensures ∙ c.in_default.is) in
    let few = c.bodies.invariant.few in
    omega (arith, size, past, few)
