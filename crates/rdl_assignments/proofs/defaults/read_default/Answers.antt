use Rattle.std.proofs.Common.{◌++◌, ◌∷◌, sym, subst}
use Rattle.plain_lemmas.proofs.Results.{on_ok-map as on_ok}
use Rattle.rdl_layers.specs.Assignments.{default_in}
use Rattle.rdl_layers.specs.Judged.{anywhere}
use Rattle.rdl_assignments.specs.Layers.{IsLayer}
use Rattle.rdl_assignments.proofs.defaults.read_default.Goals as goal

pub returns-in-Default : goal.returns-in-Default
returns-in-Default c = on_ok c.read.result _ _ (λ h start read l outer before shown k.
    subst (λ i. IsLayer anywhere c.args.body c.read.new.self start c.read.new.failures (read ++ default_in l outer (before, i))) (sym c.in-Default.is) (h start read (record l { before = before } ∷ outer) shown k)) c.read.ensures
