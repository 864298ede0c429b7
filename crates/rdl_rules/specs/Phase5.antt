-- Layout and targets are one phase: its failures are those of addresses and bits, and of references.
use Rattle.std.specs.Prelude.{ℕ, List, ◌++◌, Option, Contains}
use Rattle.rdl_base.specs.declared.fault.Fault.{Fault}
use Rattle.rdl_tree.specs.declared.item.Source.{Source}
use Rattle.rdl_values.specs.Uses.{at_}
use Rattle.rdl_values.specs.Verdict.{Fails}
use Rattle.rdl_addr.specs.Rules.{failures_ab}
use Rattle.rdl_refs.specs.Items.{failures_r}

-- all failures of the phase
abbrev pub failures5 : Option (List ℕ) → Source → List Fault
failures5 wanted s = failures_ab wanted s ++ failures_r wanted s

abbrev pub fails5 : Option (List ℕ) → Source → Fails
fails5 wanted s r p = Contains (failures5 wanted s) (at_ r p)
