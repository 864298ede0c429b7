use Rattle.std.proofs.Common.{◌≡◌, List, drop}
use Rattle.rdl_tree.specs.declared.node.Elab.{Elab}
use Rattle.rdl_values.specs.Elaboration.{IsClean}
use Rattle.rdl_values.specs.Lineages.{Lineage}
use Rattle.rdl_values.specs.Values.{Around}
use Rattle.rdl_failures.specs.Shown.{IsShown}
use Rattle.rdl_members.specs.Found.{AreMembersOf}
use Rattle.rdl_resolve.specs.Led.{IsLed, further, is_exactly}
use Rattle.rdl_resolve.proofs.walk.led_on.Given as goal

abbrev pub invariant-loop-step : goal.invariant-loop-step
invariant-loop-step l = (e : Elab) (around : Around) (ls : List Lineage) → IsClean e → AreMembersOf e l.members → IsShown l.visible around → IsLed e l.fn.from ls
    → (ms : List Lineage) × IsLed e l.found ms × (further (is_exactly around) ms (drop l.step-index l.steps) ≡ further (is_exactly around) ls l.steps)
