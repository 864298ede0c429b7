use Rattle.std.proofs.Common.{◌≢◌, sym, ◌∙◌, subst}
use Rattle.std.specs.List.{AllPairs}
use Rattle.machine_run.proofs.Tables.{inputs_apart}
use Rattle.machine_run.proofs.answer.table_for.Goals as goal

pub read-requires : goal.read-requires
read-requires c = subst (AllPairs (λ p q. p.name ≢ q.name)) (sym (c.deref.ensures.value ∙ c.requires.inputs)) (inputs_apart c.args.block.now c.requires.sound)
