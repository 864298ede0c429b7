-- What the calls of this crate answer.
use Rattle.std.specs.Prelude.{◌≡◌, ◌≢◌, ◌↔◌, ℕ, ◌+◌, List, [], Option, Result, Ok, Err}
use Rattle.rdl_tree.specs.declared.item.Source.{Source}
use Rattle.rdl_tree.specs.declared.node.Elab.{Elab}
use Rattle.rdl_values.specs.Elaborated.{measured}
use Rattle.rdl_values.specs.Elaboration.{Elaborates, Refuses}
use Rattle.rdl_values.specs.Instances.{most_nodes}
use Rattle.rdl_values.specs.Phase3.{too_many_nodes}
use Rattle.rdl_failures.specs.declared.error.PhaseError.{PhaseError}
use Rattle.rdl_failures.specs.declared.error.PhaseError.TheVariants as error

-- `elaborate`: the tree where no rule on instances fails, else the list of all failures. Want of memory may be answered anywhere.
abbrev pub Answers3 : Option (List ℕ) → Source → Result Elab PhaseError → Type 0
Answers3 wanted s (Ok e) = Elaborates wanted s e
Answers3 wanted s (Err (error.Faults list)) = Refuses wanted s list.items
Answers3 wanted s (Err error.NoMemory) = Unit {0}

-- `measure`: how many nodes there are, no more than the first that is one too many; which is where rule E9 fails
pub record Measures (wanted : Option (List ℕ)) (s : Source) (count : ℕ) : Type 0 where
  pub counted : count ≡ measured wanted s
  pub too_many : (count ≡ most_nodes + 1) ↔ (too_many_nodes wanted s ≢ [])
