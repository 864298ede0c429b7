use Rattle.std.proofs.Common.{◌∙◌, sym}
use Rattle.plain_lemmas.proofs.Options.{if_some-map as if-some}
use Rattle.rdl_values.specs.Seen.{around_of}
use Rattle.rdl_resolve.proofs.Viewed.{env-of-root, env-of-row, root-found}
use Rattle.rdl_resolve.proofs.view.env_at.Goals as goal

pub returns-in-Some-clause-visible : goal.returns-in-Some-clause-visible
returns-in-Some-clause-visible c = env-of-row c.args.elab.now c.args.rows.now c.requires.rows c.args.body c.in-Some.row (sym c.row_of.ensures ∙ c.in-Some.is)

pub returns-in-None-clause-visible : goal.returns-in-None-clause-visible
returns-in-None-clause-visible c =
    if-some c.round.result _ _ (λ o h. env-of-root c.args.elab.now c.requires.clean c.scopes_are_bodies.ensures c.texts_in_bodies.ensures.top c.args.rows.now c.requires.rows c.args.body (sym c.row_of.ensures ∙ c.in-None.is) (around_of o.now) h) c.round.ensures.some

pub returns-in-None-clause-found : goal.returns-in-None-clause-found
returns-in-None-clause-found c = root-found c.args.elab.now c.requires.clean c.scopes_are_bodies.ensures c.texts_in_bodies.ensures.top c.round.result c.round.ensures.none
