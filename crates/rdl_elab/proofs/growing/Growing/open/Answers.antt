use Rattle.std.proofs.Common.{◌≡◌, ◌∙◌, Some, ap, length, refl, subst, sym}
use Rattle.rdl_walk.specs.declared.walk.Walk.{Walk}
use Rattle.rdl_elab.specs.Envs.{AreEnvs}
use Rattle.rdl_elab.proofs.Environments.{envs_stay}
use Rattle.rdl_elab.proofs.Nodewise.{can_show, is_shown}
use Rattle.rdl_elab.proofs.growing.Growing.open.Goals as goal

pub add_envs-requires : goal.add_envs-requires
add_envs-requires c =
    let w = c.args.self.now.walk in
    let some = c.requires.some in
    envs_stay w.bodies c.open.new.self w.failures c.args.self.now.envs.items c.requires.growing.walking.kept (c.in_ok-number.ensures some.site some.node some.here some.at).grown c.requires.growing.envs

pub env_of-env-requires-clause-some : goal.env_of-env-requires-clause-some
env_of-env-requires-clause-some c =
    let w = c.args.self.now.walk in
    let some = c.requires.some in
    can_show w (record w { bodies = c.open.new.self; failures = c.open.new.failures }) c.in_ok-number.number some.node (c.in_ok-number.ensures some.site some.node some.here some.at)

pub env_of-env-requires-clause-known : goal.env_of-env-requires-clause-known
env_of-env-requires-clause-known c = subst (AreEnvs c.open.new.self.list.items) (sym c.deref.ensures.value) c.in_ok-add_envs.ensures.known

pub env_of-env-requires-clause-all : goal.env_of-env-requires-clause-all
env_of-env-requires-clause-all c = ap length c.deref.ensures.value ∙ c.in_ok-add_envs.ensures.all

pub returns-clause-opened : goal.returns-clause-opened
returns-clause-opened c = λ s n e at.
    let u : Walk = record c.args.self.now.walk { bodies = c.open.new.self; failures = c.open.new.failures } in
    is_shown c.args.self.now.walk u _ c.args.site s n c.requires.growing.walking refl refl at e (c.in_ok-number.ensures s n e at)
    (λ x q. (let both : Some c.in-Some.of ≡ Some x = sym c.in-Some.is ∙ c.site.ensures ∙ q in let same : c.in-Some.of ≡ x = cc in ap (λ y. y.def) same)) c.env_of-env.ensures
