use Rattle.std.proofs.Common.{[], ap, ◌∙◌, bytes_eq}
use Rattle.std.proofs.lemmas.Map.Text.{btree_map_updates_str}
use Rattle.rdl_facts.specs.Places.{listed}
use Rattle.rdl_facts.proofs.Placed.{listed_if}
use Rattle.rdl_facts.proofs.places.Places.take.Goals as goal

pub returns-in-Some-clause-rest : goal.returns-in-Some-clause-rest
returns-in-Some-clause-rest c = λ n. ap listed (btree_map_updates_str c.args.name.now c.args.self.now.by_name c.insert.new.self _ c.in_ok-list.ensures.updates n) ∙ listed_if (bytes_eq c.args.name.now n) c.new.result _ [] c.new.ensures.items

pub returns-in-None-clause-rest : goal.returns-in-None-clause-rest
returns-in-None-clause-rest c = λ n. ap listed (btree_map_updates_str c.args.name.now c.args.self.now.by_name c.insert.new.self _ c.in_ok-list.ensures.updates n) ∙ listed_if (bytes_eq c.args.name.now n) c.new.result _ [] c.new.ensures.items
