use Rattle.std.proofs.Common.{◌++◌, sym, subst}
use Rattle.plain_lemmas.proofs.Results.{on_ok-map as on_ok}
use Rattle.rdl_values.specs.Bodies.{scope_at}
use Rattle.rdl_layers.specs.Assignments.{local_in}
use Rattle.rdl_props.specs.Table.{is_legal}
use Rattle.rdl_assignments.specs.Layers.{IsLayer}
use Rattle.rdl_assignments.proofs.locals.read_local.Goals as goal

pub returns-in-Local : goal.returns-in-Local
returns-in-Local c = on_ok c.read.result _ _ (λ h start read b before shown k.
    subst (λ i. IsLayer (λ p. is_legal p c.args.kind) c.args.body c.read.new.self start c.read.new.failures (read ++ local_in b (before, i))) (sym c.in-Local.is) (h start read (scope_at b before) shown k)) c.read.ensures
