use Rattle.std.proofs.lemmas.Map.Text.{btree_map_updates_str}
use Rattle.word_groups.proofs.places.Places.put.Goals as goal

pub returns : goal.returns
returns c = btree_map_updates_str c.args.key.now c.args.self.now.places c.insert.new.self _ c.in_ok-insert.ensures.updates
