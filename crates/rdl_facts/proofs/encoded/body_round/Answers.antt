use Rattle.std.proofs.Common.{◌∙◌, ap, slice_get, subst, sym}
use Rattle.rdl_values.specs.Bodies.{around}
use Rattle.rdl_facts.specs.Encoded.{Shows, body_or}
use Rattle.rdl_facts.proofs.Round.{shown}
use Rattle.rdl_facts.proofs.encoded.body_round.Goals as goal

pub returns : goal.returns
returns c = λ e name round h.
    let t = c.args.tree.now in
    subst (λ o. Shows t o (around round)) (sym (c.body.ensures ∙ ap (slice_get t.bodies.list.items) (c.open_body.ensures ∙ ap (λ os. body_or (slice_get os c.args.scope)) c.deref.ensures.value)))
    (shown c.settings_in_bodies.ensures e t name c.args.scope round h)
