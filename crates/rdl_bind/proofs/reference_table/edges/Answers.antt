use Rattle.std.proofs.lemmas.Result.{IfOk-weaker}
use Rattle.rdl_bind.proofs.ReferenceLists.{each-within}
use Rattle.rdl_bind.proofs.reference_table.edges.Goals as goal

pub returns-clause-within : goal.returns-clause-within
returns-clause-within c = IfOk-weaker c.edges_from_all.result _ _ (λ v h. each-within c.args.known.props.now v h) c.edges_from_all.ensures
