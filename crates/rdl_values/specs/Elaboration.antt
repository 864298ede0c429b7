-- What `elaborate` answers: the instances of a source where no rule of the phase fails, else the phase's failures.
use Rattle.std.specs.Prelude.{ℕ, List, [], Option, Some}
use Rattle.rdl_base.specs.declared.fault.Fault.{Fault}
use Rattle.rdl_tree.specs.declared.item.Source.{Source}
use Rattle.rdl_tree.specs.declared.node.Elab.{Elab}
use Rattle.rdl_tree.specs.InOrder.{IsInOrder}
use Rattle.rdl_values.specs.Elaborated.{IsElab, top_name}
use Rattle.rdl_values.specs.Verdict.{IsListOf, IsRefusal, Phase}
use Rattle.rdl_values.specs.Phase3.{fails3}

-- the phase, for the verdict of a source
abbrev pub instances : Option (List ℕ) → Source → Phase
instances wanted s list = IsListOf (fails3 wanted s) list

-- Ok: no rule fails, and the tree is that of the instances.
pub record Elaborates (wanted : Option (List ℕ)) (s : Source) (e : Elab) : Type 0 where
  pub clean : IsListOf (fails3 wanted s) []
  pub tree : IsElab wanted s e

-- Faults: some rule fails, and the list is that of all failures.
abbrev pub Refuses : Option (List ℕ) → Source → List Fault → Type 0
Refuses wanted s list = IsRefusal (fails3 wanted s) list

-- What every later phase asks of a tree: it is that of its source and of the top's name, no rule on instances fails, and the
-- items stand in order.
pub record IsClean (e : Elab) : Type 0 where
  pub elaborated : Elaborates (Some (top_name e)) e.source.now e
  pub in_order : IsInOrder e.source.now.items.now
