use Rattle.rdl_values.specs.Lineages.{lineages_of}
use Rattle.rdl_dynamic.proofs.Legal.{target_noted}
use Rattle.rdl_dynamic.proofs.targets.judge_target.Goals as goal
use Rattle.plain_lemmas.proofs.Results.{if_ok-map as if_ok}

pub returns : goal.returns
returns c = if_ok c.note.result _ _ (λ ok noted e b d ec h ep. target_noted (lineages_of e) c.args.nodes.now b d c.args.place c.args.clean c.are_none.result ok c.args.failures.now c.note.new.self ec c.are_none.ensures h ep noted) c.note.ensures
