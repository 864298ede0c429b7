use Rattle.std.proofs.Common.{◌∙◌, sym}
use Rattle.rdl_elab.proofs.Environments.{env_shown, env_there}
use Rattle.rdl_elab.proofs.envs.env_of.Goals as goal

pub env_at-requires : goal.env_at-requires
env_at-requires c = env_there c.args.bodies.now c.in-Some.body c.args.number (sym c.body.ensures ∙ c.in-Some.is) c.args.envs.now c.requires.some c.requires.all

pub returns : goal.returns
returns c = env_shown c.args.bodies.now c.in-Some.body c.args.number (sym c.body.ensures ∙ c.in-Some.is) c.args.envs.now c.env_at.result c.requires.known c.env_at.ensures
