use Rattle.std.proofs.Common.{flat_map, subst}
use Rattle.plain_lemmas.proofs.Results.{if_ok-map as if_ok}
use Rattle.rdl_values.specs.Instances.{children}
use Rattle.rdl_targets.specs.Trails.{Finds}
use Rattle.rdl_targets.proofs.Leading.{filter-same, passes-step}
use Rattle.rdl_targets.proofs.trails.Trails.step.Goals as goal

pub returns : goal.returns
returns c = if_ok c.turn.result _ _ (λ r found e node env before ms rows contents shown h was at.
    subst (Finds e node c.args.self.now c.turn.new.self r) (filter-same _ _ (passes-step env c.args.step.now c.in_ok-wanted.wanted (c.in_ok-wanted.ensures env shown)) (flat_map children ms)) (found e node before ms rows contents h was at)) c.turn.ensures
