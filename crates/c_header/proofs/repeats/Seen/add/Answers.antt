use Rattle.std.proofs.Common.{◌∙◌, Some, ap, bytes_eq, cond, is_some}
use Rattle.std.proofs.lemmas.Map.Text.{btree_map_updates_str}
use Rattle.c_header.specs.Repeats.{seen_in}
use Rattle.c_header.proofs.repeats.Seen.add.Goals as goal

pub returns : goal.returns
returns c = λ other.
    let name = c.args.name.now in
    let seen = c.args.self.now in
    btree_map_updates_str name seen.names c.insert.new.self _ c.in_ok-insert.ensures.updates other
    ∙ ap (λ a. cond (bytes_eq name other) (Some a) (seen_in seen other)) (c.is_some-again.ensures ∙ ap is_some c.find.ensures)
