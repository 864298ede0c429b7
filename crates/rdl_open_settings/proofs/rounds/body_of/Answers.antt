use Rattle.std.proofs.Common.{◌∙◌, ap, slice_get, subst, sym}
use Rattle.rdl_open_bodies.specs.Spots.{IsBodyAt}
use Rattle.rdl_open_settings.proofs.Round.{node_known, none_there}
use Rattle.rdl_open_settings.proofs.rounds.body_of.Goals as goal

pub returns-in-Some-spot_at : goal.returns-in-Some-spot_at
returns-in-Some-spot_at c = λ e tree layers count b scene same is.
    let at = subst (λ r. IsBodyAt e r b) c.in-Some.is is in
    node_known e tree layers count c.in-Some.node scene at.0 at.1 c.in-Some-spot_at.spot (ap (λ os. slice_get os c.in-Some.node) same ∙ sym c.spot_at.ensures ∙ c.in-Some-spot_at.is) b at.2

pub returns-in-None-spot_at : goal.returns-in-None-spot_at
returns-in-None-spot_at c = λ e tree layers count b scene same is.
    let at = subst (λ r. IsBodyAt e r b) c.in-Some.is is in
    absurd (none_there e tree layers count c.in-Some.node scene at.0 at.1 (ap (λ os. slice_get os c.in-Some.node) same ∙ sym c.spot_at.ensures ∙ c.in-None-spot_at.is))
