use Rattle.std.proofs.Common.{◌-◌, length}
use Rattle.rdl_elab.specs.Envs.{AreEnvs}
use Rattle.rdl_elab.proofs.envs.add_envs.Given as goal

abbrev pub invariant-bodies : goal.invariant-bodies
invariant-bodies l = AreEnvs l.bodies.list.items l.envs.items

abbrev pub decreases-bodies : goal.decreases-bodies
decreases-bodies l = length l.bodies.list.items - length l.envs.items
