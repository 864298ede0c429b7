use Rattle.std.proofs.Common.{◌∙◌, ap, refl, sym}
use Rattle.rdl_open_bodies.specs.Starts.{first_or_root}
use Rattle.rdl_walk.specs.declared.walk.Walk.{Walk}
use Rattle.rdl_open_bodies.proofs.Growing.{at_site, node_open}
use Rattle.rdl_open_bodies.proofs.opening.open_one.Goals as goal

pub returns : goal.returns
returns c = λ e levels n start.
    let w = c.args.walk.now in
    let v : Walk = record w { bodies = c.open.new.self; failures = c.open.new.failures } in
    let there = sym c.site.ensures ∙ c.in-Some.is in
    let at = at_site e w v c.args.start.now levels n c.in-Some.site c.requires.walking start there in
    node_open e w v c.args.start.now levels n c.in-Some.site c.requires.walking start there c.in_ok-body.body _ c.first_of.result c.nearest_of.result c.args.spots.now.items c.push.new.self.items (c.in_ok-body.ensures c.in-Some.site n there at) refl refl refl
    c.first_of.ensures (c.nearest_of.ensures ∙ ap first_or_root c.last_of.ensures) c.in_ok-push.ensures.items
