use Rattle.std.proofs.Common.{◌∙◌, ap, is_some, sym}
use Rattle.plain_lemmas.proofs.Results.{on_ok-map as on_ok}
use Rattle.rdl_targets.proofs.Listing.{put-there, there-already}
use Rattle.rdl_targets.proofs.noting.note_in.Goals as goal

pub returns-then-is_some : goal.returns-then-is_some
returns-then-is_some c = there-already c.args.nodes.now (record { body = c.args.number; name = c.args.name.now; index = c.args.index.now }) (ap is_some (sym c.first.ensures) ∙ sym c.is_some.ensures ∙ c.if-is_some.true)

pub returns : goal.returns
returns c = on_ok c.put.result _ _ (λ put. put-there c.args.nodes.now c.put.new.self (record { body = c.args.number; name = c.args.name.now; index = c.args.index.now }) c.args.node put) c.put.ensures
