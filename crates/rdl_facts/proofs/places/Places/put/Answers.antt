use Rattle.std.proofs.Common.{◌∙◌, ap, bytes_eq, refl}
use Rattle.std.proofs.lemmas.Map.Text.{btree_map_updates_str}
use Rattle.rdl_facts.specs.Places.{listed}
use Rattle.rdl_facts.proofs.Placed.{listed_if, one_more}
use Rattle.rdl_facts.proofs.places.Places.put.Goals as goal

pub returns : goal.returns
returns c =
    one_more c.args.name.now c.args.of c.args.self.now c.take.new.self (record { by_name = c.insert.new.self }) c.in_ok-list.list.items c.push.new.self.items c.in_ok-list.ensures.taken c.in_ok-list.ensures.rest c.in_ok-push.ensures.items
    (λ n. ap listed (btree_map_updates_str c.args.name.now c.take.new.self.by_name c.insert.new.self _ c.in_ok-insert.ensures.updates n) ∙ listed_if (bytes_eq c.args.name.now n) c.push.new.self _ c.push.new.self.items refl)
